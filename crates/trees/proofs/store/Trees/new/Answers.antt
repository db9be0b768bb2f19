-- A store without nodes is in order.
use Rattle.std.proofs.Common.{ap}
use Rattle.trees.specs.Nodes.{ordered}
use Rattle.trees.proofs.store.Trees.new.Goals as goal

pub invariant_of-result : goal.invariant_of-result
unfolding ordered
invariant_of-result c = record { ordered = ap (ordered 0) c.new.ensures.empty }
