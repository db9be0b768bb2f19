use Rattle.std.proofs.Common.{◌≡◌}
use Rattle.notation.specs.declared.marks.Mark.TheVariants.{Newline}
use Rattle.notation.specs.Marks.{parts}
use Rattle.notation.specs.Parts.{parts_left}
use Rattle.notation.specs.Notation.{lines_in}
use Rattle.notation.specs.Readers.{sofar}
use Rattle.notation.proofs.reader.lines.read.Given as goal

abbrev pub invariant-loop-place : goal.invariant-loop-place
invariant-loop-place l =
    lines_in l.place-iterator.count (sofar l.reader) (parts_left l.place-iterator.iter) ≡ lines_in 0 (sofar l.initial.reader) (parts Newline l.bytes)
