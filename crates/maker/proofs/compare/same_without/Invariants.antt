use Rattle.std.proofs.Common.{◌≡◌, ◌-◌}
use Rattle.maker.specs.Compare.{same_from}
use Rattle.maker.proofs.compare.same_without.Given as goal

abbrev pub invariant-loop-i : goal.invariant-loop-i
invariant-loop-i l = same_from l.f (l.count - l._i) l.ys l.ns ≡ same_from l.f l.count l.initial.ys l.initial.ns
