-- The latest node that is not used, from the last one back.
use Rattle.std.proofs.Common.{◌≡◌, ℕ, zero, suc, ◌+◌, ◌<◌, ◌≤◌, Bool, true, false, List, length, get_or, take, Some, None, sym, ap, ◌∙◌, ⊎_elim, arith}
use Rattle.std.proofs.lemmas.Bool.{cond-true, cond-false, cases_Bool, cases_lt}
use Rattle.std.proofs.lemmas.List.{get_or-take, length-take-le}
use Rattle.notation.specs.Operands.{latest}

-- node i is the last of the first n that is not used
latest_here : (used : List Bool) (n i : ℕ) → i < n → get_or used i false ≡ false → ((k : ℕ) → i < k → k < n → get_or used k false ≡ true) → Some i ≡ latest used n
unfolding latest
latest_here used zero i h free above = absurd (omega arith)
latest_here used (suc n) i h free above =
    ⊎_elim
    (λ lt. latest_here used n i lt free (λ k a b. above k a (omega arith)) ∙ sym (cond-true _ _ _ (above n lt (omega arith))))
    (λ le. let last : i ≡ n = omega arith in ap Some last ∙ sym (cond-false _ _ _ (ap (λ k. get_or used k false) (sym last) ∙ free))) (cases_lt i n)

-- each of the first n is used
latest_none : (used : List Bool) (n : ℕ) → ((k : ℕ) → k < n → get_or used k false ≡ true) → None ≡ latest used n
unfolding latest
latest_none used zero all = λ i. None
latest_none used (suc n) all = latest_none used n (λ k lt. all k (omega arith)) ∙ sym (cond-true _ _ _ (all n (omega arith)))

pub latest_below : (used : List Bool) (n k : ℕ) → Some k ≡ latest used n → k < n
unfolding latest
latest_below used zero k e = let z : ◌≡◌ {A = ℕ} 0 1 = cc in absurd (omega arith)
latest_below used (suc n) k e =
    ⊎_elim (λ t. let h = latest_below used n k (e ∙ cond-true _ _ _ t) in omega arith)
    (λ t. let h : Some k ≡ Some n = e ∙ cond-false _ _ _ t in let m : k ≡ n = cc in omega arith) (cases_Bool (get_or used n false))

-- the same of the flags of the first n alone
module _ (used : List Bool) (n : ℕ) (le : n ≤ length used) where
  in_front : (k : ℕ) → k < n → get_or (take n used) k false ≡ get_or used k false
  in_front k lt = get_or-take n used k false lt

  pub front_here : (i : ℕ) → i < n → get_or (take n used) i false ≡ false →
      ((k : ℕ) → i + 1 ≤ k → k < length (take n used) → get_or (take n used) k false ≡ true) → Some i ≡ latest used n
  front_here i lt free above =
      latest_here used n i lt (sym (in_front i lt) ∙ free) (λ k a b. sym (in_front k b) ∙ above k (omega arith) (omega (arith, length-take-le n used le)))

  pub front_none : ((k : ℕ) → k < length (take n used) → get_or (take n used) k false ≡ true) → None ≡ latest used n
  front_none all = latest_none used n (λ k lt. sym (in_front k lt) ∙ all k (omega (arith, length-take-le n used le)))
