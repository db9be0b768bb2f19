-- Tests of the field in front of a tree.
use Rattle.std.proofs.Common.{cond, eqb, sym, ap, ◌∙◌, arith}
use Rattle.packet.specs.Packet.{field}
use Rattle.trees.specs.Nodes.{tree_at}
use Rattle.trees.specs.Stores.{nodes_of}
use Rattle.trees.proofs.Building.{over_test}
use Rattle.trees.proofs.Giving.{eqb_swap}
use Rattle.trees.proofs.Agreeing.{next_copies}
use Rattle.trees.proofs.Tabling.{cond_low}
use Rattle.trees.proofs.store.Trees.+past.Goals as goal

pub returns-then-field-f : goal.returns-then-field-f
returns-then-field-f t c =
    let ns = nodes_of c.args.self.now in
    let n = c.in-Test in
    let low = over_test n.met n.unmet c.args.t n.ensures.over in
    record {
      low = omega (arith, c.past.ensures.low, cond_low (eqb n.value c.args.x) n.met n.unmet c.next.result c.args.t c.next.ensures.value low.0 low.1);
      same =
          λ p is.
          c.past.ensures.same p is
          ∙ next_copies ns (tree_at ns c.args.t) n.field n.value n.met n.unmet c.next.result c.args.x p n.ensures.tree
          (sym is ∙ ap (λ k. field k p) (sym c.if-field-f.true)) (c.next.ensures.value ∙ ap (λ b. cond b n.met n.unmet) (eqb_swap n.value c.args.x));
    }
