-- Functions of numbers, changed at one place.
use Rattle.std.specs.Prelude.{ℕ, cond, ◌&&◌, ◌==◌}

abbrev pub at : {A : Type 0} → ℕ → A → (ℕ → A) → ℕ → A
at i a f j = cond (j == i) a (f j)

abbrev pub at2 : {A : Type 0} → ℕ → ℕ → A → (ℕ → ℕ → A) → ℕ → ℕ → A
at2 i p a f j q = cond (j == i && q == p) a (f j q)
