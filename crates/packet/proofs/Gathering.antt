-- Sets of copies: one packet more, and one set after another.
use Rattle.std.proofs.Common.{◌≡◌, ℕ, ◌+◌, ◌<◌, ◌≤◌, Bool, true, false, ◌||◌, List, [], ◌∷◌, ◌++◌, length, get_or, take, drop, set, ltb, refl, sym, ap, ◌∙◌, arith}
use Rattle.std.proofs.lemmas.Bool.{ltb-true, lt-ltb}
use Rattle.std.proofs.lemmas.List.{append-nil, append_assoc, at_drop_all, drop_more, get_or-map, length-map, length_push, length-take, take_more_set, map_push}
use Rattle.std.specs.List.{list_any}
use Rattle.packet.specs.Packet as packets
use Rattle.packet.specs.Packet.{same_packet, once, is_in}
use Rattle.packet.specs.declared.packets.Packet.{Packet}
use Rattle.packet.specs.declared.copies.Copies.{Copies}
use Rattle.packet.specs.Listed.{fields_of}
use Rattle.packet.specs.Copies.{listing}
use Rattle.packet.proofs.Once.{once_once, once_twice, once_old, once_new, once_grows, same_sym}

-- what a search of the packets answers
searched : (ps : List Packet) (p : packets.Packet) → is_in p (fields_of ps) ≡ list_any (λ q. same_packet q.fields p) ps
unfolding is_in
searched [] p = refl
searched (q ∷ ps) p = ap (λ b. b || is_in p (fields_of ps)) (same_sym p q.fields) ∙ ap (λ b. same_packet q.fields p || b) (searched ps p)

-- and one of a set's packets, as they were lent
pub found : (all : List packets.Packet) (p : packets.Packet) (lent : List Packet) (r : Bool) → fields_of lent ≡ all → r ≡ list_any (λ q. same_packet q.fields p) lent → is_in p all ≡ r
found all p lent r e h = ap (is_in p) (sym e) ∙ searched lent p ∙ sym h

-- what is once each stays so
pub once_since : (xs ys : List packets.Packet) → xs ≡ once ys → once xs ≡ xs
once_since xs ys e = ap once e ∙ once_twice ys ∙ sym e

module _ {n : ℕ} (s : Copies n) (p : Packet) where
  -- one that is there already
  pub added_old : is_in p.fields (listing s) ≡ true → listing s ≡ once (listing s ++ p.fields ∷ [])
  added_old h = sym (once_old (listing s) p.fields h ∙ s.apart)

  -- a new one
  module _ (new : is_in p.fields (listing s) ≡ false) where
    all : once (listing s ++ p.fields ∷ []) ≡ listing s ++ p.fields ∷ []
    all = once_new (listing s) p.fields new ∙ ap (λ l. l ++ p.fields ∷ []) s.apart

    pub added_full : length s.packets ≡ n → s.count ≡ n → ltb n (length (once (listing s ++ p.fields ∷ []))) ≡ true
    added_full long h =
        lt-ltb n _ (omega (arith, ap length all, length_push (listing s) p.fields, length-map (take s.count s.packets) (λ q. q.fields), length-take s.count s.packets))

    pub added_new : s.count < length s.packets → fields_of (take (s.count + 1) (set s.packets s.count p)) ≡ once (listing s ++ p.fields ∷ [])
    added_new lt = ap fields_of (take_more_set s.packets s.count p lt) ∙ map_push (λ q. q.fields) (take s.count s.packets) p ∙ sym all

-- one packet of a list after the other
module _ {n : ℕ} (s : Copies n) (ps : List Packet) (i : ℕ) (d : Packet) (lt : i < length ps) where
  one_on : once (listing s ++ drop i (fields_of ps)) ≡ once ((listing s ++ (get_or ps i d).fields ∷ []) ++ drop (i + 1) (fields_of ps))
  one_on =
      ap (λ l. once (listing s ++ l)) (drop_more (fields_of ps) i [] (omega (arith, length-map ps (λ q. q.fields))) ∙ ap (λ q. q ∷ drop (i + 1) (fields_of ps)) (get_or-map (λ q. q.fields) ps i d [] lt))
      ∙ ap once (sym (append_assoc (listing s) ((get_or ps i d).fields ∷ []) (drop (i + 1) (fields_of ps))))

  pub join_more : (t : Copies n) → listing t ≡ once (listing s ++ (get_or ps i d).fields ∷ []) → once (listing t ++ drop (i + 1) (fields_of ps)) ≡ once (listing s ++ drop i (fields_of ps))
  join_more t e = ap (λ l. once (l ++ drop (i + 1) (fields_of ps))) e ∙ once_once (listing s ++ (get_or ps i d).fields ∷ []) (drop (i + 1) (fields_of ps)) ∙ sym one_on

  pub join_full : (all : List packets.Packet) → once (listing s ++ drop i (fields_of ps)) ≡ once all → ltb n (length (once (listing s ++ (get_or ps i d).fields ∷ []))) ≡ true → ltb n (length (once all)) ≡ true
  join_full all e h =
      lt-ltb n _
      (omega (
        arith,
        ltb-true n _ h,
        once_grows (listing s ++ (get_or ps i d).fields ∷ []) (drop (i + 1) (fields_of ps)),
        ap length (sym one_on ∙ e),
      ))

pub join_all : {n : ℕ} (s : Copies n) (ps : List Packet) (i : ℕ) → length ps ≤ i → once (listing s ++ drop i (fields_of ps)) ≡ listing s
join_all s ps i h = at_drop_all (λ l. once (listing s ++ l)) (fields_of ps) i (omega (arith, length-map ps (λ q. q.fields))) ∙ ap once (append-nil (listing s)) ∙ s.apart
