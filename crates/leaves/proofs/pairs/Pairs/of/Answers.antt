use Rattle.std.proofs.Common.{◌<◌, ◌≤◌, length, get_or, vec_items, vec_len, vec_capacity, sym, ap, ◌∙◌, arith}
use Rattle.std.proofs.lemmas.List.{take_all}
use Rattle.text.specs.declared.node.Node.TheVariants.{Always}
use Rattle.text.specs.Texts.{nodes_of}
use Rattle.prescribed.specs.Order.{insert, rising, less_want}
use Rattle.packet.specs.Pairs.{want_of}
use Rattle.leaves.specs.Pairs.{wants_of}
use Rattle.leaves.proofs.Gathered.{pair_more, pair_unmarked, pair_other, pairs_all, pairs_low}
use Rattle.leaves.proofs.Marking.{marked_none}
use Rattle.leaves.specs.Under.{test_of}
use Rattle.leaves.proofs.pairs.Pairs.of.Goals as goal
use Rattle.leaves.proofs.pairs.Pairs.of.Goals.{in-Is+then-row-k, in-Is+else-row-k, in_default}

pub loop-k-init : goal.loop-k-init
unfolding rising
loop-k-init c =
    let none = c.in_ok-items.ensures in
    (omega (arith, none.len), omega (arith, none.capacity), ap wants_of none.items ∙ sym (ap (rising less_want) (marked_none test_of c.under-row.result)))

pub loop-k-preserved : goal.loop-k-preserved
loop-k-preserved c =
    let ns = nodes_of c.args.text.now in
    let row = c.under-row.result in
    let k = c.loop-k.k in
    let inv = c.loop-k.invariant in
    let same = ap (λ l. get_or l k Always) (sym c.nodes-n-items.ensures.value) in
    let lt : k < length ns = omega (arith, ap length c.nodes-n-items.ensures.value) in
    elim c.match-n.branch [
      | in-Is+then-row-k w ↦ (
        omega (arith, ap vec_len w.items-is, w.insert.ensures.len, inv.0),
        omega (arith, ap vec_capacity w.items-is, w.insert.ensures.capacity, inv.1),
        ap (λ v. wants_of (vec_items v)) w.items-is ∙ w.insert.ensures.items _ inv.2
            ∙ ap (insert less_want (want_of (record { field = w.in-Is.field; value = w.in-Is.value }))) inv.2
            ∙ sym (pair_more row ns k lt w.in-Is.field w.in-Is.value w.if-row-k.true (same ∙ w.in-Is.is)),
      )
      | in-Is+else-row-k w ↦ (
        omega (arith, ap vec_len w.items-is, inv.0),
        omega (arith, ap vec_capacity w.items-is, inv.1),
        ap (λ v. wants_of (vec_items v)) w.items-is ∙ inv.2 ∙ sym (pair_unmarked row ns k lt w.if-row-k.false),
      )
      | in_default w ↦ (
        omega (arith, ap vec_len w.items-is, inv.0),
        omega (arith, ap vec_capacity w.items-is, inv.1),
        ap (λ v. wants_of (vec_items v)) w.items-is ∙ inv.2 ∙ sym (pair_other row ns k lt (λ f x e. w.in_default.not-Is f x (sym same ∙ e))),
      )
    ]

pub invariant_of-result : goal.invariant_of-result
invariant_of-result c =
    let t = c.args.text.now in
    let k = c.loop-k.k in
    let le : length (nodes_of t) ≤ k = omega (arith, ap length c.nodes-n-items.ensures.value) in
    record {
      few = omega (arith, c.loop-k.invariant.0);
      low = pairs_low c.under-row.result _ (nodes_of t) (vec_items c.loop-k.items) _ t.sound (sym (take_all k (nodes_of t) le)) (omega arith) c.loop-k.invariant.2;
    }

pub returns : goal.returns
returns c =
    let ns = nodes_of c.args.text.now in
    let le : length ns ≤ c.loop-k.k = omega (arith, ap length c.nodes-n-items.ensures.value) in
    record { made = c.loop-k.invariant.2 ∙ pairs_all c.under-row.result ns c.loop-k.k le c.under-row.ensures.marks }
