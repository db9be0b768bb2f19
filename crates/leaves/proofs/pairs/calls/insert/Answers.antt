use Rattle.std.proofs.Common.{vec_items, ap, ◌∙◌}
use Rattle.std.proofs.lemmas.Bool.{cond-true}
use Rattle.packet.specs.Pairs.{want_of}
use Rattle.prescribed.specs.Order.{less_want}
use Rattle.prescribed.proofs.Orders.{want_ordered}
use Rattle.leaves.specs.Pairs.{wants_of, pair_cmp}
use Rattle.leaves.proofs.Deciding.{pair_total, pair_less}
use Rattle.leaves.proofs.Placed.{found, not_found}
use Rattle.leaves.proofs.pairs.calls.insert.Goals as goal

pub returns-in-Err-clause-items : goal.returns-in-Err-clause-items
returns-in-Err-clause-items c = λ ws is.
    let e = c.deref.ensures.value in
    ap wants_of (c.insert.ensures.items ∙ cond-true _ _ _ (c.insert.ensures.succeeds c.requires.room))
    ∙ not_found less_want want_ordered want_of pair_cmp pair_total pair_less (vec_items c.args.items.now) c.args.p ws is c.in-Err.i (rw e at c.in-Err.ensures.bound) (rw e at c.in-Err.ensures.place)

pub returns-in_default-clause-items : goal.returns-in_default-clause-items
returns-in_default-clause-items c = λ ws is.
    let e = c.deref.ensures.value in
    found less_want want_ordered want_of pair_cmp pair_total pair_less (vec_items c.args.items.now) c.args.p ws is c.in_default.field-0 (rw e at c.in_default.ensures.bound) (rw e at c.in_default.ensures.place)
