-- What a policy gives, by what its parts give.
use Rattle.std.proofs.Common.{◌≡◌, ℕ, ◌+◌, ◌<◌, ◌≤◌, Bool, true, false, ◌||◌, cond, ltb, List, [], ◌∷◌, ◌++◌, length, get_or, take, drop, Ok, Err, Result, sym, refl, ap, ◌∙◌, subst, arith}
use Rattle.std.proofs.lemmas.Bool.{ltb-true, lt-ltb, le-ltb, or_from, or_left, or_right}
use Rattle.std.proofs.lemmas.List.{length-map, length-take, map_more, map-append, take-append-drop}
use Rattle.std.specs.Result.{IsErrAnd}
use Rattle.std.proofs.lemmas.Result.{err_from_is_err_and}
use Rattle.octets.specs.declared.fault.Fault.{Fault}
use Rattle.octets.specs.declared.fault.Fault.TheVariants as faults
use Rattle.packet.specs.Packet as packets
use Rattle.packet.specs.Packet.{once, put}
use Rattle.packet.specs.declared.packets.Packet.{Packet}
use Rattle.packet.specs.Policy.{Test, holds, Policy, keep, puts, and, then, each, copies, some, overfull}
use Rattle.packet.proofs.Once.{once_both, once_one, once_grows, some_append, some_once, each_append, each_one, each_once}
use Rattle.packet.specs.Copies.{listing}
use Rattle.packet.specs.declared.copies.Copies.{Copies}
use Rattle.packet.specs.Listed.{fields_of}
use Rattle.meaning.specs.Answers.{Told, Answered, AnsweredEach}

-- a policy has too many copies
abbrev Refused : Policy → packets.Packet → Fault → Type 0
Refused a p x = (overfull a p ≡ true) × (x ≡ faults.Copies)

abbrev RefusedEach : Policy → List packets.Packet → Fault → Type 0
RefusedEach a ps x = ((ltb 16 (length (once (each (copies a) ps))) || some (overfull a) ps) ≡ true) × (x ≡ faults.Copies)

told_same : {n : ℕ} (f g : Bool) (ps qs : List packets.Packet) (r : Result (Copies n) Fault) → f ≡ g → once ps ≡ once qs → Told f ps r → Told g qs r
told_same f g ps qs (Ok s) e o h = (sym e ∙ h.0, h.1 ∙ o)
told_same f g ps qs (Err x) e o h = (sym e ∙ h.0, h.1)

-- a set never holds more than 16 packets
pub gathered : {n : ℕ} (s : Copies n) (ps : List packets.Packet) → n ≤ 16 → listing s ≡ once ps → Told (ltb 16 (length (once ps))) ps (Ok s)
gathered s ps le e = (le-ltb 16 (length (once ps)) (omega (arith, ap length e, length-map (take s.count s.packets) (λ q. q.fields), length-take s.count s.packets, s.few)), e)

-- and one that has no room for a packet has 16
overflows : (n : ℕ) (ps : List packets.Packet) → 16 ≤ n → ltb n (length ps) ≡ true → ltb 16 (length ps) ≡ true
overflows n ps le h = lt-ltb 16 (length ps) (omega (arith, ltb-true n (length ps) h))

-- an answer handed on by `?`
pub handed_on : {n : ℕ} (full : Bool) (ps : List packets.Packet) (x : Fault) (r : Result (Copies n) Fault) → (full ≡ true) × (x ≡ faults.Copies) → IsErrAnd r (λ y. y ≡ x) → Told full ps r
handed_on full ps x r h e = let p = err_from_is_err_and r e in rw p.1 (h.0, p.2 ∙ h.1)

pub answer_of_lem : {n : ℕ} (a b : Policy) (p : packets.Packet) (r : Result (Copies n) Fault) → a ≡ b → Answered b p r → Answered a p r
answer_of_lem a b p r e h = subst (λ x. Answered x p r) (sym e) h

or_false : (x : Bool) → x ≡ (x || false)
or_false true = refl
or_false false = refl

pub keep_gives : {n : ℕ} (t : Test) (p : packets.Packet) (b : Bool) (s : Copies n) → b ≡ holds t p → listing s ≡ cond b (p ∷ []) [] → Answered (keep t) p (Ok s)
unfolding copies overfull once
keep_gives t p b s h e = (
  refl,
  e ∙ ap (λ x. cond x (p ∷ []) []) h
      ∙ elim (holds t p) as (λ x. cond x (p ∷ []) [] ≡ once (cond x (p ∷ []) [])) [ true ↦ sym (once_one p) | false ↦ refl ],
)

pub put_gives : {n : ℕ} (f x : ℕ) (p q : packets.Packet) (s : Copies n) → q ≡ put f x p → listing s ≡ q ∷ [] → Answered (puts f x) p (Ok s)
unfolding copies overfull
put_gives f x p q s is e = (refl, e ∙ ap (λ y. y ∷ []) is ∙ sym (once_one (put f x p)))

module _ (a b : Policy) (p : packets.Packet) where
  pub and_first : (x : Fault) → Refused a p x → Refused (and a b) p x
  unfolding overfull
  and_first x h = (or_right _ _ (or_left _ _ h.0), h.1)

  pub and_second : (x : Fault) → Refused b p x → Refused (and a b) p x
  unfolding overfull
  and_second x h = (or_right (ltb 16 (length (once (copies (and a b) p)))) _ (or_right (overfull a p) _ h.0), h.1)

  module _ {n : ℕ} (s t : Copies n) (h : Answered a p (Ok s)) (g : Answered b p (Ok t)) where
    both : once (listing s ++ listing t) ≡ once (copies (and a b) p)
    unfolding copies
    both = (λ i. once (h.1 i ++ g.1 i)) ∙ once_both (copies a p) (copies b p)

    pub and_joined : (u : Copies n) → n ≤ 16 → listing u ≡ once (listing s ++ listing t) → Answered (and a b) p (Ok u)
    unfolding overfull
    and_joined u le e = (or_from _ _ (gathered u (copies (and a b) p) le (e ∙ both)).0 (or_from _ _ h.0 g.0), e ∙ both)

    pub and_full : (x : Fault) → 16 ≤ n → (ltb n (length (once (listing s ++ listing t))) ≡ true) × (x ≡ faults.Copies) → Refused (and a b) p x
    unfolding overfull
    and_full x le j = (or_left (ltb 16 (length (once (copies (and a b) p)))) _ (ap (λ l. ltb 16 (length l)) (sym both) ∙ overflows n _ le j.0), j.1)

  pub then_first : (x : Fault) → Refused a p x → Refused (then a b) p x
  unfolding overfull
  then_first x h = (or_right _ _ (or_left _ _ h.0), h.1)

  pub then_each : {n : ℕ} (s : Copies n) (ps : List packets.Packet) (r : Result (Copies n) Fault) → ps ≡ listing s → Answered a p (Ok s) → AnsweredEach b ps r → Answered (then a b) p r
  unfolding copies overfull
  then_each s ps r e h j =
      let is = e ∙ h.1 in
      let o : once (each (copies b) ps) ≡ once (each (copies b) (copies a p)) = ap (λ l. once (each (copies b) l)) is ∙ each_once (copies b) (copies a p) in
      let m : some (overfull b) ps ≡ (overfull a p || some (overfull b) (copies a p)) =
      ap (some (overfull b)) is ∙ some_once (overfull b) (copies a p) ∙ ap (λ x. x || some (overfull b) (copies a p)) (sym h.0) in
      told_same _ _ _ _ r (λ i. ltb 16 (length (o i)) || m i) o j

-- the packets of a list go through a policy one after the other
module _ (a : Policy) (ps : List Packet) (i : ℕ) (d : Packet) (lt : i < length ps) where
  cut : fields_of ps ≡ fields_of (take (i + 1) ps) ++ fields_of (drop (i + 1) ps)
  cut = ap fields_of (sym (take-append-drop (i + 1) ps)) ∙ map-append (λ x. x.fields) (take (i + 1) ps) (drop (i + 1) ps)

  given : each (copies a) (fields_of (take (i + 1) ps)) ≡ each (copies a) (fields_of (take i ps)) ++ copies a (get_or ps i d).fields
  given =
      ap (each (copies a)) (map_more (λ x. x.fields) ps i d lt) ∙ each_append (copies a) (fields_of (take i ps)) ((get_or ps i d).fields ∷ [])
      ∙ ap (λ l. each (copies a) (fields_of (take i ps)) ++ l) (each_one (copies a) (get_or ps i d).fields)

  full : some (overfull a) (fields_of (take (i + 1) ps)) ≡ (some (overfull a) (fields_of (take i ps)) || overfull a (get_or ps i d).fields)
  unfolding some
  full =
      ap (some (overfull a)) (map_more (λ x. x.fields) ps i d lt) ∙ some_append (overfull a) (fields_of (take i ps)) ((get_or ps i d).fields ∷ [])
      ∙ ap (λ x. some (overfull a) (fields_of (take i ps)) || x) (sym (or_false (overfull a (get_or ps i d).fields)))

  pub each_few : some (overfull a) (fields_of (take i ps)) ≡ false → overfull a (get_or ps i d).fields ≡ false → some (overfull a) (fields_of (take (i + 1) ps)) ≡ false
  each_few h g = full ∙ or_from _ _ h g

  pub each_fault : (x : Fault) → Refused a (get_or ps i d).fields x → RefusedEach a (fields_of ps) x
  each_fault x h = (
    or_right _ _ (ap (some (overfull a)) cut ∙ some_append (overfull a) (fields_of (take (i + 1) ps)) (fields_of (drop (i + 1) ps)) ∙ or_left _ _ (full ∙ or_right _ _ h.0)),
    h.1,
  )

  module _ {n : ℕ} (all t : Copies n) (so : listing all ≡ once (each (copies a) (fields_of (take i ps)))) (is : listing t ≡ once (copies a (get_or ps i d).fields)) where
    joined : once (listing all ++ listing t) ≡ once (each (copies a) (fields_of (take (i + 1) ps)))
    joined = (λ j. once (so j ++ is j)) ∙ once_both (each (copies a) (fields_of (take i ps))) (copies a (get_or ps i d).fields) ∙ ap once (sym given)

    pub each_more : (u : Copies n) → listing u ≡ once (listing all ++ listing t) → listing u ≡ once (each (copies a) (fields_of (take (i + 1) ps)))
    each_more u h = h ∙ joined

    pub each_full : (x : Fault) → 16 ≤ n → (ltb n (length (once (listing all ++ listing t))) ≡ true) × (x ≡ faults.Copies) → RefusedEach a (fields_of ps) x
    each_full x le h =
        let front = each (copies a) (fields_of (take (i + 1) ps)) in
        let rest = each (copies a) (fields_of (drop (i + 1) ps)) in
        let whole : each (copies a) (fields_of ps) ≡ front ++ rest = ap (each (copies a)) cut ∙ each_append (copies a) (fields_of (take (i + 1) ps)) (fields_of (drop (i + 1) ps)) in
        (or_left _ _ (lt-ltb 16 (length (once (each (copies a) (fields_of ps)))) (omega (arith, ltb-true n (length (once (listing all ++ listing t))) h.0, ap length joined, once_grows front rest, ap (λ l. length (once l)) whole))), h.1)
