-- What the nodes so far name is marked.
use Rattle.std.proofs.Common.{ℕ, ◌<◌, get_or}
use Rattle.trees.specs.Names.{named_by}
use Rattle.trees.specs.Search.{Marks}
use Rattle.trees.specs.declared.node.Node.TheVariants.{Nothing}
use Rattle.trees.proofs.store.marks.mark.Given as goal

abbrev pub invariant-loop-node : goal.invariant-loop-node
invariant-loop-node l = (k : ℕ) → k < l.node-index → Marks (named_by l.f (get_or l.nodes k Nothing)) l.marks
