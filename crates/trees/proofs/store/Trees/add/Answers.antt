-- The tree of a whole table.
use Rattle.std.proofs.Common.{subst}
use Rattle.packet.specs.Table.{Table, outputs, decided}
use Rattle.table.specs.Views.{rules_in}
use Rattle.trees.specs.Stores.{nodes_of, Gives}
use Rattle.trees.proofs.Alikes.{made_so}
use Rattle.trees.proofs.Building.{kept_then}
use Rattle.trees.proofs.Tabling.{sends_like}
use Rattle.trees.proofs.store.Trees.add.Goals as goal

pub returns : goal.returns
returns c =
    let one = c.in_ok-whole.ensures in
    let ms = nodes_of c.rules-2.new.self in
    record {
      kept = kept_then one.kept c.reduced.ensures.kept;
      made =
          made_so c.reduced.result
          (λ k l.
          sends_like ms (nodes_of c.reduced.new.self) (rules_in c.args.table) c.in_ok-whole.whole k
          (subst (λ (rs : Table). Gives ms c.in_ok-whole.whole (λ p. outputs (decided rs p) p)) c.rules.ensures.value one.made) l)
          c.reduced.ensures.made;
    }
