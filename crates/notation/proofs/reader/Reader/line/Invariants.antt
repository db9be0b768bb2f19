use Rattle.std.proofs.Common.{◌≡◌}
use Rattle.notation.specs.declared.marks.Mark.TheVariants.{Hash, Semicolon}
use Rattle.notation.specs.Marks.{before, parts}
use Rattle.notation.specs.Parts.{parts_left}
use Rattle.notation.specs.Notation.{nodes_in}
use Rattle.notation.specs.Readers.{sofar}
use Rattle.notation.proofs.reader.Reader.line.Given as goal

abbrev pub invariant-loop-piece : goal.invariant-loop-piece
invariant-loop-piece l = nodes_in (sofar l.self) (parts_left l.piece-iterator) ≡ nodes_in (sofar l.initial.self) (parts Semicolon (before Hash l.bytes))
