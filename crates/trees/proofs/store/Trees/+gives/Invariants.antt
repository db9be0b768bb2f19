-- What a node is built from has smaller numbers.
use Rattle.trees.proofs.store.Trees.+gives.Given as goal

abbrev pub decreases-gives : goal.decreases-gives
decreases-gives l = l.t
