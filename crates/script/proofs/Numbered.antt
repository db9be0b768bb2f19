-- Numbers that are read one after the other.
use Rattle.std.proofs.Common.{◌≡◌, ℕ, suc, ◌+◌, ◌-◌, ◌<◌, List, [], ◌∷◌, ◌++◌, length, take, set, sym, ap, ◌∙◌, arith}
use Rattle.std.proofs.lemmas.List.{take_more_set}
use Rattle.notation.specs.Words.{Word}
use Rattle.notation.specs.Reading.{Read, and_then}
use Rattle.script.specs.Steps.{typed, numbers}

-- one number more, stored where it belongs
pub numbers_more : (n i x : ℕ) (xs : List ℕ) (ws rest : List Word) → i < n → length xs ≡ n → Read x rest ≡ typed ws →
    numbers (n - (i + 1)) (take (i + 1) (set xs i x)) rest ≡ numbers (n - i) (take i xs) ws
numbers_more n i x xs ws rest lt len e =
    let one : n - i ≡ suc (n - (i + 1)) = omega arith in
    ap (λ l. numbers (n - (i + 1)) l rest) (take_more_set xs i x (omega (arith, len)))
    ∙ ap (λ g. and_then g (λ y r. numbers (n - (i + 1)) (take i xs ++ y ∷ []) r)) e
    ∙ ap (λ k. numbers k (take i xs) ws) (sym one)
