-- What trees do where a field has a value, and a test that may be left out.
use Rattle.std.proofs.Common.{ℕ, ap, ◌∙◌, subst, arith}
use Rattle.trees.specs.declared.node.Node.TheVariants.{Test}
use Rattle.trees.specs.Nodes.{tree_of, trees}
use Rattle.trees.specs.Stores.{nodes_of, Given}
use Rattle.trees.proofs.Alikes.{made_so}
use Rattle.trees.proofs.Building.{kept_then, over_test}
use Rattle.trees.proofs.Giving.{given_chosen, given_also, given_test, tested_kept, tested_left, tested_given}
use Rattle.trees.proofs.store.Trees.+given_test.Goals as goal

pub given-returns-then-field-f : goal.given-returns-then-field-f
given-returns-then-field-f t c =
    let ns = nodes_of c.args.self.now in
    let ms = nodes_of c.given-then-field-f.new.self in
    let n = c.in-Test in
    record {
      kept = c.given-then-field-f.ensures.kept;
      made =
          made_so c.given-then-field-f.result
          (λ k g.
          given_chosen ns ms c.args.f c.args.x n.value c.args.t n.met n.unmet k
          (n.ensures.tree ∙ ap (λ (f : ℕ). tree_of (trees ns) (Test f n.value n.met n.unmet)) c.if-field-f.true)
          (subst (λ (j : ℕ). Given ns ms c.args.f c.args.x j k) c.next.ensures.value g))
          c.given-then-field-f.ensures.made;
    }

pub given-returns-else-less-rest : goal.given-returns-else-less-rest
given-returns-else-less-rest t c =
    let ns = nodes_of c.args.self.now in
    let ms = nodes_of c.given.new.self in
    let ls = nodes_of c.insert.new.self in
    let n = c.in-Also in
    let inner = c.in_ok-less-in-Also.ensures in
    record {
      kept = kept_then inner.kept c.insert.ensures.kept;
      made =
          made_so c.insert.result
          (λ k i.
          given_also ns ms ls c.args.f c.args.x c.args.t n.rest c.in_ok-less-in-Also.less k n.out c.without-kept.result n.ensures.tree
          inner.made i c.without-kept.ensures.value)
          c.insert.ensures.made;
    }

pub given-returns-else-yes-met : goal.given-returns-else-yes-met
given-returns-else-yes-met t c =
    let ns = nodes_of c.args.self.now in
    let ms = nodes_of c.given-in-Test.new.self in
    let ls = nodes_of c.given-in-Test-2.new.self in
    let qs = nodes_of c.test.new.self in
    let n = c.in-Test in
    let one = c.in_ok-yes-in-Test.ensures in
    let two = c.in_ok-no-in-Test.ensures in
    let low = over_test n.met n.unmet c.args.t n.ensures.over in
    record {
      kept = kept_then one.kept (kept_then two.kept c.test.ensures.kept);
      made =
          made_so c.test.result
          (λ k r.
          given_test ns ms ls qs c.args.f c.args.x n.field n.value c.args.t n.met n.unmet c.in_ok-yes-in-Test.yes c.in_ok-no-in-Test.no k
          n.ensures.tree one.kept two.kept (omega (arith, low.1, c.requires.there)) one.made two.made r)
          c.test.ensures.made;
    }

pub test-returns-then-depth-eq0 : goal.test-returns-then-depth-eq0
test-returns-then-depth-eq0 t c =
    let ns = nodes_of c.args.self.now in
    let ms = nodes_of c.keep.new.self in
    record {
      kept = c.keep.ensures.kept;
      made =
          made_so c.keep.result (λ k s. tested_kept ns ms c.args.field c.args.value c.args.met c.args.unmet k s) c.keep.ensures.made;
    }

pub test-returns-then-there-yes : goal.test-returns-then-there-yes
test-returns-then-there-yes t c =
    let ns = nodes_of c.args.self.now in
    let ms = nodes_of c.given.new.self in
    let ls = nodes_of c.given-2.new.self in
    let one = c.in_ok-yes.ensures in
    let two = c.in_ok-there.ensures in
    record {
      kept = kept_then one.kept two.kept;
      made =
          tested_left ns ms ls c.args.field c.args.value c.args.met c.args.unmet c.in_ok-yes.yes c.in_ok-there.there one.kept
          two.kept c.requires.unmet one.made two.made c.if-there-yes.true;
    }

pub test-returns : goal.test-returns
test-returns t c =
    let ns = nodes_of c.args.self.now in
    let ms = nodes_of c.given.new.self in
    let ls = nodes_of c.given-2.new.self in
    let qs = nodes_of c.keep-2.new.self in
    let one = c.in_ok-yes.ensures in
    let two = c.in_ok-there.ensures in
    record {
      kept = kept_then one.kept (kept_then two.kept c.keep-2.ensures.kept);
      made =
          made_so c.keep-2.result
          (λ k s.
          tested_given ns ms ls qs c.args.field c.args.value c.args.met c.args.unmet c.in_ok-yes.yes k one.kept two.kept
          c.requires.unmet one.made s)
          c.keep-2.ensures.made;
    }
