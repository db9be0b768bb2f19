-- Below a test stand trees with smaller numbers; leaving a test out goes one level deeper.
use Rattle.std.proofs.Common.{◌+◌, ◌*◌}
use Rattle.trees.proofs.store.Trees.+given_test.Given as goal

abbrev pub decreases-given : goal.decreases-given
decreases-given l = 36893488147419103232 * l.depth + (2 * l.t + 1)

abbrev pub decreases-test : goal.decreases-test
decreases-test l = 36893488147419103232 * l.depth
