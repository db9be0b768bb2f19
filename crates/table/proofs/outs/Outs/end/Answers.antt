-- One out after the other is passed.
use Rattle.std.proofs.Common.{◌≡◌, suc, ◌+◌, ◌-◌, ap, sym, ◌∙◌, arith}
use Rattle.table.specs.Words.{past_from, outs_in_from}
use Rattle.table.proofs.Reading.{outs_parts, past_none, past_more}
use Rattle.table.proofs.outs.Outs.end.Goals as goal

pub loop-i-init : goal.loop-i-init
loop-i-init c =
    let s = c.args.self in
    let all : s.left - 0 ≡ s.left = omega arith in
    (ap (λ k. outs_in_from k s.words.now) all ∙ s.there, ap (λ k. past_from k s.words.now) all)

pub split-requires : goal.split-requires
split-requires c = record { there = (outs_parts (c.args.self.left - c.loop-i._i) c.loop-i.rest.now (omega arith) c.loop-i.invariant.0).0 }

pub loop-i-preserved : goal.loop-i-preserved
loop-i-preserved c =
    let s = c.args.self in
    let now = s.left - c.loop-i._i in
    let less : s.left - (c.loop-i._i + 1) ≡ now - 1 = omega arith in
    let one : now ≡ suc (s.left - (c.loop-i._i + 1)) = omega arith in (
      (λ i. outs_in_from (less i) (c.split.ensures.rest i)) ∙ (outs_parts now c.loop-i.rest.now (omega arith) c.loop-i.invariant.0).1,
      ap (past_from (s.left - (c.loop-i._i + 1))) c.split.ensures.rest ∙ sym (past_more now _ c.loop-i.rest.now one) ∙ c.loop-i.invariant.1,
    )

pub returns : goal.returns
returns c = sym (past_none (c.args.self.left - c.loop-i._i) c.loop-i.rest.now (omega arith)) ∙ c.loop-i.invariant.1
