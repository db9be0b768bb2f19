-- One out more is there, or none is.
use Rattle.std.proofs.Common.{◌≡◌, suc, ◌+◌, ◌-◌, ◌&&◌, sym, ap, ◌∙◌, arith}
use Rattle.std.proofs.lemmas.Bool.{and_left}
use Rattle.table.specs.Words.{number, past_few, past_from, outs_in_from}
use Rattle.table.proofs.Reading.{outs_in_more, outs_in_none, outs_in_is, past_none, past_more}
use Rattle.table.proofs.sound.past_outs.Goals as goal

pub returns-in_err-rest : goal.returns-in_err-rest
returns-in_err-rest c =
    let ws = c.args.words.now in
    let left = number ws - (c.loop-i._i + 1) in
    let one : number ws - c.loop-i._i ≡ suc left = omega arith in
    let none = sym c.loop-i.invariant.0 ∙ outs_in_more _ left c.loop-i.rest.now one ∙ and_left _ _ c.in_err-rest.ensures.cases in
    rw c.from_residual.ensures record { cases = outs_in_is ws _ (omega (arith, c.in-len1-up.len_at_least)) (omega (arith, c.if-number-gt-MOST_OUTS.false)) none }

pub loop-i-preserved : goal.loop-i-preserved
loop-i-preserved c =
    let ws = c.loop-i.rest.now in
    let left = number c.args.words.now - (c.loop-i._i + 1) in
    let one : number c.args.words.now - c.loop-i._i ≡ suc left = omega arith in
    let is = c.in_ok-rest.ensures.cases in (
      ap (outs_in_from left) is.1 ∙ sym (outs_in_more _ left ws one ∙ ap (λ b. b && outs_in_from left (past_few ws)) is.0) ∙ c.loop-i.invariant.0,
      ap (past_from left) is.1 ∙ sym (past_more _ left ws one) ∙ c.loop-i.invariant.1,
    )

pub returns : goal.returns
returns c =
    let ws = c.args.words.now in
    let left = number ws - c.loop-i._i in
    let none : left ≡ 0 = omega (arith, c.loop-i-test.false) in
    let there = sym c.loop-i.invariant.0 ∙ outs_in_none left c.loop-i.rest.now none in
    record {
      cases = (
        outs_in_is ws _ (omega (arith, c.in-len1-up.len_at_least)) (omega (arith, c.if-number-gt-MOST_OUTS.false)) there,
        sym (past_none left c.loop-i.rest.now none) ∙ c.loop-i.invariant.1,
      );
    }
