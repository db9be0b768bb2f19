use Rattle.std.proofs.Common.{◌≡◌, ◌-◌}
use Rattle.maker.specs.Compare.{wants_past}
use Rattle.maker.proofs.compare.wants_past.Given as goal

abbrev pub invariant-loop-i : goal.invariant-loop-i
invariant-loop-i l = wants_past l.f (l.count - l._i) l.v l.ys l.ns ≡ wants_past l.f l.count l.initial.v l.initial.ys l.initial.ns
