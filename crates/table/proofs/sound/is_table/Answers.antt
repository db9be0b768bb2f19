-- One rule more is there, or none is.
use Rattle.std.proofs.Common.{◌≡◌, suc, ◌+◌, ◌-◌, ◌≤◌, ◌&&◌, length, sym, ap, ◌∙◌, arith}
use Rattle.std.proofs.lemmas.Bool.{and_left, eqb-true, eqb-false}
use Rattle.table.specs.Words.{most_rules, past_rule, sound_from}
use Rattle.table.proofs.Reading.{sound_none, sound_more, sound_last}
use Rattle.table.proofs.sound.is_table.Goals as goal

pub returns-then-is_empty : goal.returns-then-is_empty
returns-then-is_empty c =
    record { value = sym (sound_none (most_rules - c.loop-i._i) c.loop-i.rest.now (eqb-true _ _ (sym c.if-is_empty.ensures))) ∙ c.loop-i.invariant }

pub returns-in_default : goal.returns-in_default
returns-in_default c =
    let ws = c.loop-i.rest.now in
    let left = most_rules - (c.loop-i._i + 1) in
    let one : most_rules - c.loop-i._i ≡ suc left = omega arith in
    let some : 1 ≤ length ws = omega (arith, eqb-false _ _ (sym c.if-is_empty.ensures)) in
    record { value = sym (sound_more _ left ws one some ∙ and_left _ _ c.in_default.ensures.cases) ∙ c.loop-i.invariant }

pub loop-i-preserved : goal.loop-i-preserved
loop-i-preserved c =
    let ws = c.loop-i.rest.now in
    let left = most_rules - (c.loop-i._i + 1) in
    let one : most_rules - c.loop-i._i ≡ suc left = omega arith in
    let some : 1 ≤ length ws = omega (arith, eqb-false _ _ (sym c.if-is_empty.ensures)) in
    let is = c.in-Some.ensures.cases in
    ap (sound_from left) is.1 ∙ sym (sound_more _ left ws one some ∙ ap (λ b. b && sound_from left (past_rule ws)) is.0) ∙ c.loop-i.invariant

pub returns : goal.returns
returns c = record { value = c.is_empty-2.ensures ∙ sym (sound_last (most_rules - c.loop-i._i) c.loop-i.rest.now (omega arith)) ∙ c.loop-i.invariant }
