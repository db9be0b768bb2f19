use Rattle.std.proofs.Common.{◌≡◌, ◌+◌, ◌-◌, true, false, length, get_or, set, replicate, sym, ap, ◌∙◌, subst, arith}
use Rattle.text.specs.declared.node.Node.TheVariants.{Always}
use Rattle.text.specs.Texts.{nodes_of}
use Rattle.leaves.specs.Under.{operands, marking}
use Rattle.leaves.proofs.Reached.{Reaches, reaches_first, reaches_marked, reaches_passed, reached}
use Rattle.leaves.proofs.Parts.{operands_within}
use Rattle.leaves.proofs.marks.under.Goals as goal

pub loop-k-init : goal.loop-k-init
loop-k-init c =
    let t = c.args.text.now in
    subst (λ l. Reaches (nodes_of t) (length l) (set (replicate 512 false) (length l - 1) true)) (sym c.nodes-nodes.ensures.value)
    (reaches_first (nodes_of t) t.sound (omega arith) (omega arith))

pub mark-requires : goal.mark-requires
mark-requires c =
    let t = c.args.text.now in
    let long = ap length c.nodes-nodes.ensures.value in
    record { within = operands_within (nodes_of t) t.sound (c.loop-k.k - 1) _ _ (ap (λ l. get_or l (c.loop-k.k - 1) Always) c.nodes-nodes.ensures.value) (omega (arith, long)) (omega (arith, long, c.loop-k.invariant.room)) }

pub loop-k-preserved-then-row-k : goal.loop-k-preserved-then-row-k
loop-k-preserved-then-row-k c =
    let t = c.args.text.now in
    let k = c.loop-k.k - 1 in
    let next : c.loop-k.k ≡ k + 1 = omega arith in
    let long = ap length c.nodes-nodes.ensures.value in
    subst (λ row. Reaches (nodes_of t) k row)
    (sym (c.mark.ensures.after ∙ ap (λ l. marking (operands (get_or l k Always)) c.loop-k.row) c.nodes-nodes.ensures.value))
    (reaches_marked (nodes_of t) t.sound (omega arith) k (omega (arith, long)) c.loop-k.row (subst (λ j. Reaches (nodes_of t) j c.loop-k.row) next c.loop-k.invariant) c.if-row-k.true)

pub loop-k-preserved : goal.loop-k-preserved
loop-k-preserved c =
    let t = c.args.text.now in
    let k = c.loop-k.k - 1 in
    let next : c.loop-k.k ≡ k + 1 = omega arith in
    let long = ap length c.nodes-nodes.ensures.value in
    reaches_passed (nodes_of t) t.sound (omega arith) k (omega (arith, long)) c.loop-k.row (subst (λ j. Reaches (nodes_of t) j c.loop-k.row) next c.loop-k.invariant) c.if-row-k.false

pub returns : goal.returns
returns c =
    let done : c.loop-k.k ≡ 0 = omega arith in
    record { marks = reached (nodes_of c.args.text.now) c.loop-k.row (subst (λ j. Reaches (nodes_of c.args.text.now) j c.loop-k.row) done c.loop-k.invariant) }
