-- What a test is built from has smaller numbers.
use Rattle.trees.proofs.store.Trees.+past.Given as goal

abbrev pub decreases-past : goal.decreases-past
decreases-past l = l.t
