use Rattle.std.proofs.Common.{map, length, sym, ap, ◌∙◌, arith}
use Rattle.std.proofs.lemmas.List.{take_all}
use Rattle.packet.specs.Listed.{fields_of}
use Rattle.prescribed.specs.Order.{insert, rising, less_out}
use Rattle.prescribed.specs.Table.{changes}
use Rattle.leaves.proofs.Outcome.{outs_more}
use Rattle.leaves.proofs.outs.Outs.from_copies.Goals as goal

pub loop-q-init : goal.loop-q-init
unfolding rising
loop-q-init c = (omega (arith, ap length c.none-all.ensures.value), c.none-all.ensures.value)

pub loop-q-preserved : goal.loop-q-preserved
loop-q-preserved c = (
  omega (arith, c.insert.ensures.count, c.loop-q.invariant.0),
  c.insert.ensures.value _ c.loop-q.invariant.1
      ∙ (λ k. insert less_out (c.changes.ensures.value k) (c.loop-q.invariant.1 k))
      ∙ sym (outs_more c.args.p.fields c.args.copies.now c.loop-q.q-index _ c.loop-q-test.true),
)

pub returns : goal.returns
returns c =
    record {
      value = c.loop-q.invariant.1 ∙ ap (λ l. rising less_out (map (changes 0 c.args.p.fields) (fields_of l))) (take_all c.loop-q.q-index c.args.copies.now c.loop-q-test.false);
    }
