-- The orders of pairs and of lists of settings.
use Rattle.std.proofs.Common.{◌≡◌, ℕ, Bool, true, false, not, ◌&&◌, ◌⊎◌, List, [], ◌∷◌, sym, refl, ap, ◌∙◌, inl, inr, ⊎_elim, arith}
use Rattle.std.proofs.lemmas.Bool.{true≢false, false≢true, cases_Bool, both_ways, not-true, not-false, not_from_false, or_parts, or_cases, or_from, or_left, or_right, and_parts, and_from, and_cases, and_right}
use Rattle.std.proofs.lemmas.Bool.Decides.{nat_tests}
use Rattle.packet.specs.Policy.{Policy}
use Rattle.packet.specs.Table.{Setting}
use Rattle.prescribed.specs.Order.{less_pair, less_want, less_setting, less_out}
use Rattle.prescribed.specs.Table.{tested_in, pairs_of}
use Rattle.prescribed.proofs.Members.{SameElements}
use Rattle.prescribed.proofs.Rising.{Ordered, Rises, rising_same, rising_rises}

pair_never : (f x : ℕ) → less_pair f x f x ≡ false
pair_never f x = grind (arith, nat_tests)

pair_further : (f x g y h z : ℕ) → less_pair f x g y ≡ true → less_pair g y h z ≡ true → less_pair f x h z ≡ true
pair_further f x g y h z k l = grind (arith, nat_tests)

pair_total : (f x g y : ℕ) → less_pair f x g y ≡ false → less_pair g y f x ≡ false → (f ≡ g) × (x ≡ y)
pair_total f x g y h k = (grind (arith, nat_tests), grind (arith, nat_tests))

-- things that are a field with a value
ordered_by : {A : Type 0} (at value : A → ℕ) → ((v w : A) → at v ≡ at w → value v ≡ value w → v ≡ w) → Ordered (λ v w. less_pair (at v) (value v) (at w) (value w))
ordered_by at value same =
    record {
      never = λ v. pair_never (at v) (value v);
      further = λ u v w. pair_further (at u) (value u) (at v) (value v) (at w) (value w);
      total = λ v w h k. let e = pair_total (at v) (value v) (at w) (value w) h k in same v w e.0 e.1;
    }

pub want_ordered : Ordered less_want
want_ordered = ordered_by (λ v. v.at) (λ v. v.value) (λ v w e d i. record { at = e i; value = d i })

pub setting_ordered : Ordered less_setting
setting_ordered = ordered_by (λ s. s.at) (λ s. s.value) (λ s t e d i. record { at = e i; value = d i })

-- a list is less than another where its first setting is, or where that is the same and what is behind it is less
module _ (s t : Setting) (ss ts : List Setting) where
  out_first : less_setting s t ≡ true → less_out (s ∷ ss) (t ∷ ts) ≡ true
  unfolding less_out
  out_first h = or_left _ _ h

  out_behind : s ≡ t → less_out ss ts ≡ true → less_out (s ∷ ss) (t ∷ ts) ≡ true
  unfolding less_out
  out_behind e h = or_right (less_setting s t) _ (and_from _ _ (not_from_false (less_setting t s) (ap (λ u. less_setting t u) e ∙ setting_ordered.never t)) h)

  out_cases : less_out (s ∷ ss) (t ∷ ts) ≡ true → (less_setting s t ≡ true) ⊎ ((s ≡ t) × (less_out ss ts ≡ true))
  unfolding less_out
  out_cases h =
      ⊎_elim
      (λ k. inl k)
      (λ k. ⊎_elim
      (λ l. inl l)
      (λ l. let p = and_parts (not (less_setting t s)) (less_out ss ts) k in inr (setting_ordered.total s t l (not-true _ p.0), p.1))
      (cases_Bool (less_setting s t)))
      (or_cases (less_setting s t) _ h)

out_never : (ss : List Setting) → less_out ss ss ≡ false
unfolding less_out
out_never [] = refl
out_never (s ∷ ss) = or_from (less_setting s s) _ (setting_ordered.never s) (and_right (not (less_setting s s)) _ (out_never ss))

out_further : (ss ts us : List Setting) → less_out ss ts ≡ true → less_out ts us ≡ true → less_out ss us ≡ true
unfolding less_out
out_further [] [] us h k = absurd (false≢true h)
out_further [] (t ∷ ts) [] h k = absurd (false≢true k)
out_further [] (t ∷ ts) (u ∷ us) h k = refl
out_further (s ∷ ss) [] us h k = absurd (false≢true h)
out_further (s ∷ ss) (t ∷ ts) [] h k = absurd (false≢true k)
out_further (s ∷ ss) (t ∷ ts) (u ∷ us) h k =
    ⊎_elim
    (λ l. out_first s u ss us (⊎_elim (λ m. setting_ordered.further s t u l m) (λ m. ap (less_setting s) (sym m.0) ∙ l) (out_cases t u ts us k)))
    (λ l. ⊎_elim
    (λ m. out_first s u ss us (ap (λ v. less_setting v u) l.0 ∙ m))
    (λ m. out_behind s u ss us (l.0 ∙ m.0) (out_further ss ts us l.1 m.1))
    (out_cases t u ts us k))
    (out_cases s t ss ts h)

out_total : (ss ts : List Setting) → less_out ss ts ≡ false → less_out ts ss ≡ false → ss ≡ ts
unfolding less_out
out_total [] [] h k = refl
out_total [] (t ∷ ts) h k = absurd (true≢false h)
out_total (s ∷ ss) [] h k = absurd (true≢false k)
out_total (s ∷ ss) (t ∷ ts) h k =
    let up = or_parts (less_setting s t) _ h in
    let down = or_parts (less_setting t s) _ k in
    let first = setting_ordered.total s t up.0 down.0 in
    let rest = out_total ss ts (behind (less_setting t s) (less_out ss ts) down.0 up.1) (behind (less_setting s t) (less_out ts ss) up.0 down.1) in
    λ i. first i ∷ rest i
  where
    behind : (b c : Bool) → b ≡ false → (not b && c) ≡ false → c ≡ false
    behind b c e g = ⊎_elim (λ n. absurd (both_ways b e (not-false b n))) (λ n. n) (and_cases (not b) c g)

pub out_ordered : Ordered less_out
out_ordered = record { never = out_never; further = out_further; total = out_total }

-- the pairs that are asked for rise, and are just those that are tested
pub pairs_rise : (a : Policy) → Rises less_want (pairs_of a)
pairs_rise a = rising_rises less_want want_ordered (tested_in a)

pub pairs_tested : (a : Policy) → SameElements (pairs_of a) (tested_in a)
pairs_tested a = rising_same less_want want_ordered (tested_in a)
