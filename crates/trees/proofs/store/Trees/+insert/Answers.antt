-- One out more: it is there already, it goes behind the first, or in front.
use Rattle.std.proofs.Common.{sym, ap, ◌∙◌}
use Rattle.trees.specs.Stores.{nodes_of}
use Rattle.trees.proofs.Alikes.{made_so}
use Rattle.trees.proofs.Equal.{same_out}
use Rattle.trees.proofs.Building.{kept_all, kept_then}
use Rattle.trees.proofs.Inserting.{inserted_there, inserted_behind, inserted_front}
use Rattle.trees.proofs.store.Trees.+insert.Goals as goal

pub returns-then-eq : goal.returns-then-eq
returns-then-eq t c =
    let ns = nodes_of c.args.self.now in
    record {
      kept = kept_all ns;
      made =
          inserted_there ns c.args.t c.in-Also.rest c.args.out c.in-Also.first c.requires.there c.in-Also.ensures.tree
          (ap (λ o. o.sets) (same_out c.args.out c.in-Also.first (sym c.eq.ensures ∙ c.if-eq.true)));
    }

pub returns-then-lt : goal.returns-then-lt
returns-then-lt t c =
    let ns = nodes_of c.args.self.now in
    let inner = c.in_ok-more.ensures in
    record {
      kept = kept_then inner.kept c.keep.ensures.kept;
      made =
          made_so c.keep.result
          (λ k s.
          inserted_behind ns (nodes_of c.insert.new.self) (nodes_of c.keep.new.self) c.args.t c.in-Also.rest c.in_ok-more.more k
          c.args.out c.in-Also.first c.in-Also.ensures.tree inner.made s)
          c.keep.ensures.made;
    }

pub returns : goal.returns
returns t c =
    let ns = nodes_of c.args.self.now in
    record {
      kept = c.keep-2.ensures.kept;
      made =
          made_so c.keep-2.result (λ k s. inserted_front ns (nodes_of c.keep-2.new.self) c.args.t k c.args.out s) c.keep-2.ensures.made;
    }
