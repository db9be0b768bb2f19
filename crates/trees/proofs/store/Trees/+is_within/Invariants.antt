-- What a node is built from has smaller numbers.
use Rattle.trees.proofs.store.Trees.+is_within.Given as goal

abbrev pub decreases-is_within : goal.decreases-is_within
decreases-is_within l = l.s
