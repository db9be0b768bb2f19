-- One rule less.
use Rattle.std.proofs.Common.{length}
use Rattle.table.specs.Views.{rules_in}
use Rattle.trees.proofs.store.Trees.+rules.Given as goal

abbrev pub decreases-rules : goal.decreases-rules
decreases-rules l = length (rules_in l.rules.left)
