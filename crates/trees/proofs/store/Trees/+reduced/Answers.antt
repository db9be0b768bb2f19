-- A tree that does the same.
use Rattle.std.proofs.Common.{arith}
use Rattle.trees.specs.Stores.{nodes_of}
use Rattle.trees.proofs.Alikes.{made_so}
use Rattle.trees.proofs.Building.{kept_then, over_test}
use Rattle.trees.proofs.Giving.{like_also, like_test}
use Rattle.trees.proofs.store.Trees.+reduced.Goals as goal

pub returns-in_ok-less-in-Also : goal.returns-in_ok-less-in-Also
returns-in_ok-less-in-Also t c =
    let ns = nodes_of c.args.self.now in
    let ms = nodes_of c.reduced.new.self in
    let ls = nodes_of c.insert.new.self in
    let n = c.in-Also in
    let inner = c.in_ok-less-in-Also.ensures in
    record {
      kept = kept_then inner.kept c.insert.ensures.kept;
      made =
          made_so c.insert.result
          (λ k i. like_also ns ms ls c.args.t n.rest c.in_ok-less-in-Also.less k n.out n.ensures.tree inner.made i)
          c.insert.ensures.made;
    }

pub returns-in_ok-no-in-Test : goal.returns-in_ok-no-in-Test
returns-in_ok-no-in-Test t c =
    let ns = nodes_of c.args.self.now in
    let ms = nodes_of c.reduced-in-Test.new.self in
    let ls = nodes_of c.reduced-in-Test-2.new.self in
    let qs = nodes_of c.test.new.self in
    let n = c.in-Test in
    let one = c.in_ok-yes-in-Test.ensures in
    let two = c.in_ok-no-in-Test.ensures in
    let low = over_test n.met n.unmet c.args.t n.ensures.over in
    record {
      kept = kept_then one.kept (kept_then two.kept c.test.ensures.kept);
      made =
          made_so c.test.result
          (λ k r.
          like_test ns ms ls qs n.field n.value c.args.t n.met n.unmet c.in_ok-yes-in-Test.yes c.in_ok-no-in-Test.no k n.ensures.tree
          one.kept two.kept (omega (arith, low.1, c.requires.there)) one.made two.made r)
          c.test.ensures.made;
    }
