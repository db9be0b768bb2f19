-- The examples, by computing.
use Rattle.std.proofs.Common.{refl}
use Rattle.notation.specs.Marks.{before, parts}
use Rattle.notation.specs.Kinds.{same_word}
use Rattle.notation.specs.Numbers.{goes_on}
use Rattle.script.specs.Steps.{hex_on}
use Rattle.script.specs.Scripts.{describing, opening}
use Rattle.script.specs.Examples.{Examples}

pub examples : Examples
unfolding before parts same_word goes_on hex_on describing opening
examples = record { blank = refl; round = refl; raw = refl; odd = refl; further = refl; range = refl; itself = refl; unended = refl }
