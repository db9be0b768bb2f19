use Rattle.std.proofs.Common.{◌≡◌, length}
use Rattle.notation.specs.declared.marks.Mark.TheVariants.{Newline}
use Rattle.notation.specs.Marks.{parts}
use Rattle.script.specs.Scripts.{describing, sofar_of}
use Rattle.script.proofs.header.reads.describe.Given as goal

-- the lines that are left give the same outcome
abbrev pub invariant-loop-line : goal.invariant-loop-line
invariant-loop-line l =
    describing l.lines.before (sofar_of l.draft) (parts Newline l.lines.left.now)
    ≡ describing l.initial.lines.before (sofar_of l.initial.draft) (parts Newline l.initial.lines.left.now)

abbrev pub decreases-loop-line : goal.decreases-loop-line
decreases-loop-line l = length l.lines.left.now
