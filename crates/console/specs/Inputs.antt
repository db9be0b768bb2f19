-- The text that an input is, in the byte form or in the notation, or its fault.
use Rattle.std.specs.Prelude.{ℕ, List, [], None}
use Rattle.octets.specs.Parse as parse
use Rattle.text.specs.Format.{Assignment, alone}
use Rattle.notation.specs.Notation.{Outcome, Whole, Refused, text_in}
use Rattle.console.specs.declared.input.Writing.{Writing}
use Rattle.console.specs.declared.input.Writing.TheVariants.{Notation, Bytes}

-- of the byte form no line is at fault
abbrev pub told : parse.Got Assignment → Outcome
told (parse.Read a left) = Whole a.nodes
told (parse.Bad n) = Refused n None

-- in the byte form a text is for one of n switches
abbrev pub read_for : ℕ → Writing → List ℕ → Outcome
read_for n Notation input = text_in [] input
read_for n Bytes input = told (alone n input)

-- what the programs read is for one of 24
abbrev pub read_as : Writing → List ℕ → Outcome
read_as = read_for 24
