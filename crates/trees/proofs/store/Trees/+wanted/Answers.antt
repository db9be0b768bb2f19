-- One want more.
use Rattle.std.proofs.Common.{map, ap, sym, arith}
use Rattle.std.proofs.lemmas.Bool.{cond-true}
use Rattle.packet.specs.Pairs.{want_of}
use Rattle.table.specs.Views.{wants_in}
use Rattle.trees.specs.Stores.{nodes_of}
use Rattle.trees.proofs.Alikes.{made_so}
use Rattle.trees.proofs.Tabling.{meets_none, gives_wanted}
use Rattle.trees.proofs.store.Trees.+wanted.Goals as goal

pub returns-in_default-clause-made : goal.returns-in_default-clause-made
returns-in_default-clause-made t c =
    record { there = c.requires.met; gives = λ p h. sym (cond-true _ _ _ (meets_none (wants_in c.args.wants) p (ap (map want_of) c.in_default.ensures.steps.0))) }

pub returns-clause-made : goal.returns-clause-made
returns-clause-made t c =
    let inner = c.in_ok-inner.ensures in
    made_so c.keep.result
    (λ k s.
    gives_wanted (nodes_of c.args.self.now) (nodes_of c.wanted.new.self) (nodes_of c.keep.new.self) (wants_in c.args.wants) (wants_in c.next.new.self)
    (want_of c.in-Some.want) (ap (map want_of) c.in-Some.ensures.steps) c.args.met c.args.unmet c.past-there.result c.beside-other.result
    c.in_ok-inner.inner k inner.kept (omega (arith, c.beside-other.ensures.low, c.requires.unmet)) c.past-there.ensures.same c.beside-other.ensures.same
    inner.made s)
    c.keep.ensures.made
