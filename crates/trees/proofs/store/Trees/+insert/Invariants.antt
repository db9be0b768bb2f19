-- The rest of a set has a smaller number.
use Rattle.trees.proofs.store.Trees.+insert.Given as goal

abbrev pub decreases-insert : goal.decreases-insert
decreases-insert l = l.t
