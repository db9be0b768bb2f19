-- A node like this is there, or is added.
use Rattle.trees.specs.contracts.node.NodePartialEq.TheImpl as node
use Rattle.trees.specs.Stores.{nodes_of}
use Rattle.trees.proofs.Equal.{same_node}
use Rattle.trees.proofs.Building.{ordered_after, put}
use Rattle.trees.proofs.store.Trees.keep.Goals as goal

pub invariant_of-self : goal.invariant_of-self
invariant_of-self c =
    let s = c.args.self.now in
    record { ordered = ordered_after node.eq-value.it (nodes_of s) c.args.node s.ordered c.requires.over _ c.insert_full.result c.insert_full.ensures.keys c.insert_full.ensures.err }

pub returns : goal.returns
returns c =
    let there = c.in_ok-number.ensures.stored in
    let both =
    put node.eq-value.it (nodes_of c.args.self.now) c.args.node c.args.self.now.ordered c.requires.over c.insert_full.new.self.keys c.in_ok-number.number
    there.0 c.in_ok-number.ensures.keys there.1 (same_node c.args.node there.0 there.2) in
    record { kept = both.0; made = both.1 }
