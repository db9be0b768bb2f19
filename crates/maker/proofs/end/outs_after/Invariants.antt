use Rattle.std.proofs.Common.{◌≡◌, ◌-◌, ◌≤◌, length}
use Rattle.maker.specs.End.{outs_after}
use Rattle.maker.proofs.end.outs_after.Given as goal

abbrev pub invariant-loop-i : goal.invariant-loop-i
invariant-loop-i l = (outs_after (l.count - l._i) l.words ≡ outs_after l.count l.initial.words) × (length l.words ≤ length l.initial.words)
