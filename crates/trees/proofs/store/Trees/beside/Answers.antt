-- The test in front of a tree.
use Rattle.std.proofs.Common.{arith}
use Rattle.trees.specs.Nodes.{tree_at}
use Rattle.trees.specs.Stores.{nodes_of}
use Rattle.trees.proofs.Building.{over_test}
use Rattle.trees.proofs.Tabling.{beside_copies}
use Rattle.trees.proofs.store.Trees.beside.Goals as goal

pub returns-then-value-x : goal.returns-then-value-x
returns-then-value-x c =
    let ns = nodes_of c.args.self.now in
    let n = c.in-Test in
    let low = over_test n.met n.unmet c.args.t n.ensures.over in
    record {
      low = omega (arith, low.1);
      same = λ p out. beside_copies ns (tree_at ns c.args.t) n.field n.value n.met n.unmet c.args.f c.args.x p n.ensures.tree c.if-field-f.true c.if-value-x.true out;
    }
