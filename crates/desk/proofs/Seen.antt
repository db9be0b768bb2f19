-- Who has answered: nobody at first, and not all while one has not.
use Rattle.std.proofs.Common.{◌≡◌, ℕ, zero, suc, false, get_or, replicate, refl}
use Rattle.run.specs.Desk.{Desk, Stage}
use Rattle.desk.specs.Model.{begins}

none_of : (n i : ℕ) → get_or (replicate n false) i false ≡ false
none_of zero i = refl
none_of (suc n) zero = refl
none_of (suc n) (suc i) = none_of n i

pub none_seen : (v w : ℕ) (g : Stage) → ◌≡◌ {A = Desk} (record { from = v; to = w; stage = g; seen = λ i. get_or (replicate 24 false) i false }) (begins v w g)
none_seen v w g = λ k. record { from = v; to = w; stage = g; seen = λ i. none_of 24 i k }
