-- Below a test stand trees with smaller numbers.
use Rattle.trees.proofs.store.Trees.+reduced.Given as goal

abbrev pub decreases-reduced : goal.decreases-reduced
decreases-reduced l = l.t
