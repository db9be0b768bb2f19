-- One rule more.
use Rattle.packet.specs.Table.{outputs, decided}
use Rattle.table.specs.Views.{rule_of, rules_in}
use Rattle.trees.specs.Stores.{nodes_of}
use Rattle.trees.proofs.Alikes.{made_so}
use Rattle.trees.proofs.Tabling.{gives_none, no_outputs, decided_none, gives_rule}
use Rattle.trees.proofs.store.Trees.+rules.Goals as goal

pub returns-in_default-clause-made : goal.returns-in_default-clause-made
returns-in_default-clause-made t c =
    let all = rules_in c.args.rules.left in
    made_so c.keep.result
    (λ k s.
    gives_none (nodes_of c.args.self.now) (nodes_of c.keep.new.self) k (λ p. outputs (decided all p) p) s
    (λ p. no_outputs _ p (decided_none all p c.in_default.ensures.steps.0)))
    c.keep.ensures.made

pub returns-clause-made : goal.returns-clause-made
returns-clause-made t c =
    made_so c.wanted.result
    (λ k g.
    gives_rule (nodes_of c.rules.new.self) (nodes_of c.outs.new.self) (nodes_of c.wanted.new.self) (rules_in c.args.rules.left) (rules_in c.next.new.self.left)
    (rule_of c.in-Some.rule) c.in_ok-met.met c.in_ok-rest.rest k c.in-Some.ensures.steps c.in_ok-met.ensures.kept c.in_ok-rest.ensures.made c.in_ok-met.ensures.made g)
    c.wanted.ensures.made
