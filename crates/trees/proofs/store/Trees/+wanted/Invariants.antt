-- One want less.
use Rattle.std.proofs.Common.{length}
use Rattle.table.specs.Views.{wants_in}
use Rattle.trees.proofs.store.Trees.+wanted.Given as goal

abbrev pub decreases-wanted : goal.decreases-wanted
decreases-wanted l = length (wants_in l.wants)
