-- What the comparing functions answer, as lists.
use Rattle.std.specs.Prelude.{ℕ, List, Some, None, Option}
use Rattle.std.specs.Borrow.{Bor}
use Rattle.maker.specs.Compare.{Past, Next}

abbrev pub past_of : Option (Bor (List ℕ) × Bor (List ℕ)) → Past
past_of None = None
past_of (Some p) = Some (p.0.now, p.1.now)

abbrev pub next_of : Option (ℕ × Bor (List ℕ)) → Next
next_of None = None
next_of (Some p) = Some (p.0, p.1.now)
