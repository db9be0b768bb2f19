-- One out less.
use Rattle.std.proofs.Common.{length}
use Rattle.table.specs.Views.{outs_in}
use Rattle.trees.proofs.store.Trees.+outs.Given as goal

abbrev pub decreases-outs : goal.decreases-outs
decreases-outs l = length (outs_in l.outs)
