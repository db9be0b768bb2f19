use Rattle.std.proofs.Common.{arith}
use Rattle.octets.proofs.Appends.{appended_more, appended_all}
use Rattle.text.specs.declared.node.Node.TheVariants.{Always}
use Rattle.text.specs.Format.{node_bytes}
use Rattle.text.proofs.format.writes.append_nodes.Goals as goal

pub loop-n-preserved : goal.loop-n-preserved
loop-n-preserved c =
    let room = c.loop-n.invariant.1 in
    (appended_more node_bytes _ _ _ _ _ Always c.loop-n-test.true c.loop-n.invariant.0 c.append_node.ensures.items, omega arith)

pub returns : goal.returns
returns c = record { items = appended_all node_bytes _ _ _ _ c.loop-n-test.false c.loop-n.invariant.0 }
