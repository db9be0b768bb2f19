use Rattle.text.specs.Texts.{nodes_of}
use Rattle.leaves.proofs.Reached.{Reaches}
use Rattle.leaves.proofs.marks.under.Given as goal

abbrev pub invariant-loop-k : goal.invariant-loop-k
invariant-loop-k l = Reaches (nodes_of l.text) l.k l.row
