-- The smallest difference.
use Rattle.std.proofs.Common.{◌+◌, false, not, get_or, sym, ◌∙◌, subst, arith}
use Rattle.std.proofs.lemmas.Bool.{true≢false, not-true}
use Rattle.packet.specs.Packet.{Packet, put}
use Rattle.trees.specs.Nodes.{tree_at}
use Rattle.trees.specs.Search.{Settled, Marked}
use Rattle.trees.specs.Stores.{nodes_of}
use Rattle.trees.proofs.Alikes.{made_so}
use Rattle.trees.proofs.Building.{kept_all, kept_then}
use Rattle.trees.proofs.Marking.{unnamed}
use Rattle.trees.proofs.Searching.{settled_agree, settled_differ, settled_given, settled_kept, read_unmarked, walked_like, walked_more, walked_found}
use Rattle.trees.proofs.store.Trees.+settle_settle_at_walk.Goals as goal

pub settle-returns-then-agree : goal.settle-returns-then-agree
settle-returns-then-agree t c =
    let ns = nodes_of c.args.self.now in
    record {
      kept = kept_all ns;
      made =
          settled_agree (tree_at ns c.args.at.first) (tree_at ns c.args.at.second) c.args.at.field c.args.at.packet.fields c.if-at-lt8.false (omega arith)
          (c.agree.ensures.test.0 c.if-agree.true);
    }

pub settle-returns-else-agree : goal.settle-returns-else-agree
settle-returns-else-agree t c =
    let ns = nodes_of c.args.self.now in
    record {
      kept = kept_all ns;
      made =
          settled_differ (tree_at ns c.args.at.first) (tree_at ns c.args.at.second) c.args.at.field c.args.at.packet.fields c.if-at-lt8.false c.requires.there.packet
          (λ same. true≢false (sym (c.agree.ensures.test.1 same) ∙ c.if-agree.false));
    }

pub settle_at-returns : goal.settle_at-returns
settle_at-returns t c =
    let ns = nodes_of c.args.self.now in
    let ms = nodes_of c.given.new.self in
    let ls = nodes_of c.given-2.new.self in
    let one = c.in_ok-first.ensures in
    let two = c.in_ok-second.ensures in
    record {
      kept = kept_then one.kept (kept_then two.kept c.settle.ensures.kept);
      made =
          made_so c.settle.result
          (λ r s.
          settled_given ns ms ls c.args.at.field c.args.x c.args.at.first c.args.at.second c.in_ok-first.first c.in_ok-second.second one.kept two.kept
          c.requires.there.second one.made two.made c.args.at.packet.fields r (omega (arith, c.requires.there.packet.eight, c.requires.low))
          (subst (λ (l : Packet). Settled (tree_at ls c.in_ok-first.first) (tree_at ls c.in_ok-second.second) (c.args.at.field + 1) l r) c.put.ensures.value s))
          c.settle.ensures.made;
    }

pub walk-loop-x-preserved-then-stood : goal.walk-loop-x-preserved-then-stood
walk-loop-x-preserved-then-stood t c =
    let ns = nodes_of c.args.self.now in
    let a = tree_at ns c.args.at.first in
    let b = tree_at ns c.args.at.second in
    let ms = c.deref-named-items.result.now in
    let f = c.args.at.field in
    let known = subst (Marked f ns) (sym c.deref-named-items.ensures.value) c.in_ok-marks.ensures.made.1 in
    let x = c.loop-x.x in
    let un = read_unmarked ms x c.loop-x-test.true c.if-not-named.true in (
      c.loop-x.invariant.0,
      rw c.if-stood.true
          (walked_like a b f c.args.at.packet.fields ms c.requires.low c.requires.there.packet.eight x
          (omega (arith, c.deref-named-items.ensures.len, c.in_ok-marks.ensures.made.0, c.loop-x-test.true))
          (λ y h. (unnamed f y ms h ns known c.args.at.first, unnamed f y ms h ns known c.args.at.second)) un
          (rw c.if-stood.true at c.loop-x.invariant.1)),
    )

pub walk-returns-in-Some : goal.walk-returns-in-Some
walk-returns-in-Some t c =
    let ns = nodes_of c.args.self.now in
    let x = c.loop-x.x in
    let inner = c.in_ok-found.ensures in
    let q = c.args.at.packet.fields in
    record {
      kept = kept_then c.loop-x.invariant.0 inner.kept;
      made =
          walked_found (tree_at ns c.args.at.first) (tree_at ns c.args.at.second) c.args.at.field q c.deref-named-items.result.now c.requires.low c.requires.there.packet.eight x c.loop-x.stood
          c.in-Some.found.fields c.loop-x.invariant.1
          (subst (Settled (tree_at ns c.args.at.first) (tree_at ns c.args.at.second) (c.args.at.field + 1) (put c.args.at.field x q)) c.in-Some.is
          (settled_kept ns (nodes_of c.loop-x.self) c.args.at.first c.args.at.second (c.args.at.field + 1) (put c.args.at.field x q) c.in_ok-found.field-0 c.loop-x.invariant.0 c.requires.there.first
          c.requires.there.second inner.made));
    }

pub walk-loop-x-preserved : goal.walk-loop-x-preserved
walk-loop-x-preserved t c =
    let ns = nodes_of c.args.self.now in
    let a = tree_at ns c.args.at.first in
    let b = tree_at ns c.args.at.second in
    let ms = c.deref-named-items.result.now in
    let f = c.args.at.field in
    let q = c.args.at.packet.fields in
    let x = c.loop-x.x in
    let inner = c.in_ok-found.ensures in (
      kept_then c.loop-x.invariant.0 inner.kept,
      walked_more a b f q ms c.requires.low c.requires.there.packet.eight x c.loop-x.stood (not (get_or ms x false))
          (λ h. read_unmarked ms x c.loop-x-test.true (not-true _ h)) c.loop-x.invariant.1
          (subst (Settled a b (f + 1) (put f x q)) c.in_default.is
          (settled_kept ns (nodes_of c.loop-x.self) c.args.at.first c.args.at.second (f + 1) (put f x q) c.in_ok-found.field-0 c.loop-x.invariant.0
          c.requires.there.first c.requires.there.second inner.made)),
    )
