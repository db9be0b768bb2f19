-- One mark more, or none.
use Rattle.std.proofs.Common.{get_or, sym, ◌∙◌, subst, arith}
use Rattle.trees.specs.Names.{named_by}
use Rattle.trees.specs.Search.{Marks}
use Rattle.trees.specs.declared.node.Node.TheVariants.{Nothing}
use Rattle.trees.proofs.Marking.{marked_some, marked_none}
use Rattle.trees.proofs.store.marks.mark.Goals as goal
use Rattle.trees.proofs.store.marks.mark.Goals.{in-Some, in_default}

pub loop-node-preserved : goal.loop-node-preserved
loop-node-preserved c =
    let i = c.loop-node.node-index in
    let ns = c.args.nodes.now in
    let so = c.loop-node.invariant in
    elim c.match-named.branch [
      | in-Some w ↦
          λ k h.
          subst (λ ms. Marks (named_by c.args.f (get_or ns k Nothing)) ms) (sym w.marks-is)
          (marked_some c.args.f i ns c.loop-node.marks so w.in-Some.x (sym c.named.ensures.value ∙ w.in-Some.is) (omega (arith, c.loop-node.auto.marks, c.requires.room, c.ranges.f)) k h)
      | in_default w ↦
          λ k h.
          subst (λ ms. Marks (named_by c.args.f (get_or ns k Nothing)) ms) (sym w.marks-is)
          (marked_none c.args.f i ns c.loop-node.marks so (sym c.named.ensures.value ∙ w.in_default.is) k h)
    ]
