use Rattle.std.proofs.Common.{◌≡◌, ◌-◌}
use Rattle.maker.specs.Compare.{outs_past}
use Rattle.maker.proofs.compare.outs_past.Given as goal

abbrev pub invariant-loop-i : goal.invariant-loop-i
invariant-loop-i l = outs_past (l.count - l._i) l.ys l.ns ≡ outs_past l.count l.initial.ys l.initial.ns
