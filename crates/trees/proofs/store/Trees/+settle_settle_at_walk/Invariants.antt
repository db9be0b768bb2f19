-- Field after field; within one field, smaller values first.
use Rattle.std.proofs.Common.{◌-◌, ◌*◌}
use Rattle.trees.specs.Nodes.{tree_at, Kept}
use Rattle.trees.specs.Stores.{nodes_of}
use Rattle.trees.specs.Walking.{Walked}
use Rattle.trees.proofs.store.Trees.+settle_settle_at_walk.Given as goal

abbrev pub decreases-settle : goal.decreases-settle
decreases-settle l = 3 * (8 - l.at.field)

abbrev pub decreases-settle_at : goal.decreases-settle_at
decreases-settle_at l = 3 * (8 - l.at.field) - 2

abbrev pub decreases-walk : goal.decreases-walk
decreases-walk l = 3 * (8 - l.at.field) - 1

abbrev pub invariant-walk-loop-x : goal.invariant-walk-loop-x
invariant-walk-loop-x l =
    Kept (nodes_of l.initial.self) (nodes_of l.self)
    × Walked (tree_at (nodes_of l.initial.self) l.at.first) (tree_at (nodes_of l.initial.self) l.at.second) l.at.field l.at.packet.fields l.named-items l.x l.stood
