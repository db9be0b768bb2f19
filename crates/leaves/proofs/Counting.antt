-- How many values a field has among the pairs, and the product over the fields.
use Rattle.std.proofs.Common.{◌≡◌, ℕ, zero, suc, ◌+◌, ◌*◌, ◌≤◌, Bool, true, false, cond, eqb, count_by, List, [], ◌∷◌, sym, refl, ap, ◌∙◌, ⊎_elim, mul_assoc, one-mul, le-mul_of_pos_right, add-one, arith}
use Rattle.std.proofs.lemmas.Bool.{cond_both, cases_lt}
use Rattle.std.proofs.lemmas.List.Sums.{sum_by-cons}
use Rattle.packet.specs.Table.{Want}
use Rattle.prescribed.specs.Fit.{values_of, product}
use Rattle.packet.specs.declared.pair.Pair.{Pair}
use Rattle.leaves.specs.Pairs.{wants_of}

one_more : (b : Bool) (v n : ℕ) → v ≡ 1 + n → cond b (v + 1) v ≡ 1 + (cond b 1 0 + n)
one_more true v n e = omega arith
one_more false v n e = omega arith

-- one more than how many of the pairs have the field
pub values_counted : (f : ℕ) (ps : List Pair) → values_of f (wants_of ps) ≡ 1 + count_by (λ p. eqb p.field f) ps
unfolding values_of
values_counted f [] = refl
values_counted f (p ∷ ps) = one_more (eqb p.field f) _ _ (values_counted f ps) ∙ ap (λ n. 1 + n) (sym (sum_by-cons (λ q. cond (eqb q.field f) 1 0) p ps))

values_some : (f : ℕ) (ws : List Want) → 1 ≤ values_of f ws
unfolding values_of
values_some f [] = omega arith
values_some f (w ∷ ws) = cond_both (eqb w.at f) _ _ (λ n. 1 ≤ n) (λ e. omega arith) (λ e. values_some f ws)

-- the product over the first k fields
unfoldable pub product_to : ℕ → List Want → ℕ
product_to zero ws = 1
product_to (suc k) ws = product_to k ws * values_of k ws

pub product_step : (k n v : ℕ) (ws vs : List Want) → n ≡ product_to k ws → v ≡ values_of k vs → vs ≡ ws → n * v ≡ product_to (k + 1) ws
unfolding product_to
product_step k n v ws vs e is same = (λ i. e i * (is ∙ ap (values_of k) same) i) ∙ ap (λ j. product_to j ws) (sym (add-one k))

product_next : (k : ℕ) (ws : List Want) → product_to k ws ≤ product_to (suc k) ws
unfolding product_to
product_next k ws = le-mul_of_pos_right (product_to k ws) (values_some k ws)

product_grows : (j k : ℕ) (ws : List Want) → j ≤ k → product_to j ws ≤ product_to k ws
product_grows j zero ws le = let e : j ≡ 0 = omega arith in omega (arith, ap (λ i. product_to i ws) e)
product_grows j (suc k) ws le =
    ⊎_elim
    (λ lt. omega (arith, product_grows j k ws (omega arith), product_next k ws))
    (λ ge. let e : j ≡ suc k = omega arith in omega (arith, ap (λ i. product_to i ws) e))
    (cases_lt j (suc k))

pub product_all : (ws : List Want) → product_to 8 ws ≡ product ws
unfolding product_to
product_all ws = simp (mul_assoc, one-mul)

pub product_within : (k : ℕ) (ws : List Want) → k ≤ 8 → product_to k ws ≤ product ws
product_within k ws le = omega (arith, product_grows k 8 ws le, product_all ws)
