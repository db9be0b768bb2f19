use Rattle.std.proofs.Common.{◌≡◌, true, take}
use Rattle.plan.specs.Values.{all_small}
use Rattle.plan.proofs.part.calls.look.Given as goal

abbrev pub invariant-loop-n : goal.invariant-loop-n
invariant-loop-n l = all_small (take l.n-index l.nodes) ≡ true
