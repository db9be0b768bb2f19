-- The parts that were not read yet.
use Rattle.std.specs.Prelude.{ℕ, List}
use Rattle.notation.specs.declared.parts.Parts.{Parts}
use Rattle.notation.specs.Marks.{parts}

abbrev pub parts_left : Parts → List (List ℕ)
parts_left p = parts p.mark p.bytes.now
