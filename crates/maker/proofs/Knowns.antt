-- What is known, pair by pair.
use Rattle.std.proofs.Common.{◌≡◌, ℕ, ◌||◌, eqb, List, [], ◌∷◌, refl, ap}
use Rattle.std.specs.List.{list_any}
use Rattle.prescribed.specs.Table.{is_known}
use Rattle.packet.specs.declared.pair.Pair.{Pair}
use Rattle.leaves.specs.Pairs.{wants_of}

-- looking for a field
pub known_any : (f : ℕ) (ps : List Pair) → list_any (λ p. eqb p.field f) ps ≡ is_known f (wants_of ps)
unfolding is_known
known_any f [] = refl
known_any f (p ∷ ps) = ap (λ b. eqb p.field f || b) (known_any f ps)
