-- A node by the trees that it is built from.
use Rattle.std.proofs.Common.{ap, ◌∙◌, sym}
use Rattle.std.specs.Option.{unwrap_or}
use Rattle.std.proofs.lemmas.Option.{unwrap_or-slice_get}
use Rattle.trees.specs.declared.node.Node.TheVariants.{Nothing}
use Rattle.trees.specs.Nodes.{tree_of, trees, is_over}
use Rattle.trees.specs.Stores.{nodes_of}
use Rattle.trees.proofs.Building.{tree_at_lem, over_at}
use Rattle.trees.proofs.store.Trees.node.Goals as goal

pub returns : goal.returns
returns c =
    let s = c.args.self.now in
    let ns = nodes_of s in
    let is = c.unwrap_or.ensures ∙ ap (λ o. unwrap_or o Nothing) (c.copied.ensures ∙ c.get_index.ensures.key) ∙ unwrap_or-slice_get ns c.args.t Nothing in
    record {
      tree = tree_at_lem ns c.args.t s.ordered ∙ ap (tree_of (trees ns)) (sym is);
      over = ap (is_over c.args.t) is ∙ over_at ns c.args.t s.ordered;
    }
