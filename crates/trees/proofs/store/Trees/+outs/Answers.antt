-- One out more.
use Rattle.packet.specs.Table.{outputs}
use Rattle.table.specs.Views.{settings_in, outs_in}
use Rattle.trees.specs.Stores.{nodes_of}
use Rattle.trees.proofs.Alikes.{made_so}
use Rattle.trees.proofs.Tabling.{gives_none, no_outputs, gives_also}
use Rattle.trees.proofs.store.Trees.+outs.Goals as goal

pub returns-in_default-clause-made : goal.returns-in_default-clause-made
returns-in_default-clause-made t c =
    let os = outs_in c.args.outs in
    made_so c.keep.result
    (λ k s. gives_none (nodes_of c.args.self.now) (nodes_of c.keep.new.self) k (outputs os) s (λ p. no_outputs os p c.in_default.ensures.steps.0))
    c.keep.ensures.made

pub returns-clause-made : goal.returns-clause-made
returns-clause-made t c =
    made_so c.keep-2.result
    (λ k s.
    gives_also (nodes_of c.outs.new.self) (nodes_of c.keep-2.new.self) c.out_of-out.result c.in_ok-rest.rest k (outs_in c.args.outs) (outs_in c.next.new.self)
    (settings_in c.in-Some.settings) c.in-Some.ensures.steps c.in_ok-rest.ensures.made c.out_of-out.ensures.value s)
    c.keep-2.ensures.made
