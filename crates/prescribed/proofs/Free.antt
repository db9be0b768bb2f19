-- The free value of a field is one that no pair names.
use Rattle.std.proofs.Common.{◌≡◌, ℕ, zero, suc, ◌+◌, ◌<◌, ◌≤◌, Bool, true, false, cond, ltb, List, [], ◌∷◌, length, sym, refl, ap, ⊎_elim, arith}
use mathlib.Core.List.Memᴰ
use mathlib.Core.List.{Memᴰ}
use Rattle.std.proofs.lemmas.Bool.{cases_Bool, false≢true, or_left, or_right, eq-eqb, and_from}
use Rattle.std.proofs.lemmas.Bool.Decides.{nat_tests}
use Rattle.packet.specs.Table.{Want}
use Rattle.prescribed.specs.Table.{names, free_from, free}

-- how many pairs have a value below n
unfoldable below : ℕ → List Want → ℕ
below n [] = 0
below n (w ∷ ws) = cond (ltb w.value n) 1 0 + below n ws

below_all : (n : ℕ) (ws : List Want) → below n ws ≤ length ws
unfolding below
below_all n [] = omega arith
below_all n (w ∷ ws) = let h = below_all n ws in grind (arith, nat_tests)

below_grows : (n : ℕ) (ws : List Want) → below n ws ≤ below (n + 1) ws
unfolding below
below_grows n [] = omega arith
below_grows n (w ∷ ws) = let h = below_grows n ws in grind (arith, nat_tests)

below_more : (f n : ℕ) (ws : List Want) → names f n ws ≡ true → below n ws < below (n + 1) ws
unfolding below names
below_more f n [] e = absurd (false≢true e)
below_more f n (w ∷ ws) e = let g = below_grows n ws in let h = below_more f n ws in grind (arith, nat_tests)

free_from_lem : (f : ℕ) (ws : List Want) (k x : ℕ) → length ws ≤ x + k → x ≤ below x ws → names f (free_from k f x ws) ws ≡ false
unfolding free_from
free_from_lem f ws zero x h g =
    ⊎_elim (λ e. absurd (omega (arith, below_more f x ws e, below_all (x + 1) ws))) (λ e. e) (cases_Bool (names f x ws))
free_from_lem f ws (suc k) x h g = step (names f x ws) refl (λ e. free_from_lem f ws k (x + 1) (omega arith) (omega (arith, below_more f x ws e)))
  where
    step : (b : Bool) → names f x ws ≡ b → (b ≡ true → names f (free_from k f (x + 1) ws) ws ≡ false) → names f (cond b (free_from k f (x + 1) ws) x) ws ≡ false
    step true e more = more refl
    step false e more = e

pub free_unnamed : (f : ℕ) (ws : List Want) → names f (free f ws) ws ≡ false
free_unnamed f ws = free_from_lem f ws (length ws) 0 (omega arith) (omega arith)

pub named : (w : Want) (ws : List Want) → Memᴰ w ws → names w.at w.value ws ≡ true
unfolding names
named w [] m = elim m [ ]
named w (v ∷ ws) m =
    ⊎_elim
    (λ e. or_left _ _ (and_from _ _ (eq-eqb v.at w.at (ap (λ u. u.at) (sym e))) (eq-eqb v.value w.value (ap (λ u. u.value) (sym e)))))
    (λ n. or_right _ _ (named w ws n))
    (Memᴰ.cases_cons m)
