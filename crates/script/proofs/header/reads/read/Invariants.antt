use Rattle.std.proofs.Common.{◌≡◌, length}
use Rattle.notation.specs.declared.marks.Mark.TheVariants.{Newline}
use Rattle.notation.specs.Marks.{parts}
use Rattle.script.specs.Scripts.{opening}
use Rattle.script.proofs.header.reads.read.Given as goal

-- the lines that are left give the same outcome
abbrev pub invariant-loop-line : goal.invariant-loop-line
invariant-loop-line l =
    opening l.lines.before (parts Newline l.lines.left.now) ≡ opening 0 (parts Newline l.fn.script)

abbrev pub decreases-loop-line : goal.decreases-loop-line
decreases-loop-line l = length l.lines.left.now
