-- The rule in front.
use Rattle.std.proofs.Common.{◌≡◌, ◌∷◌, drop, length, sym, ap, ◌∙◌, arith}
use Rattle.std.proofs.lemmas.Bool.{and_parts, eqb-true, eqb-false}
use Rattle.table.specs.Views.{rule_of, rules_in}
use Rattle.table.specs.Words.{number, outs_in, outs_from, past_outs, wants_of, rules_of, sound}
use Rattle.table.proofs.Reading.{front, rules_none}
use Rattle.table.proofs.rules.RulesIterator.next.Goals as goal

pub returns-then-is_empty-clause-steps : goal.returns-then-is_empty-clause-steps
returns-then-is_empty-clause-steps c =
    let none = ap rules_of (sym c.words-words.ensures.value) ∙ rules_none c.words-words.result.now (omega (arith, eqb-true _ _ (sym c.if-is_empty.ensures))) in (none, none)

pub split-requires : goal.split-requires
split-requires c = record { there = (and_parts _ _ (front c.words-words.result.now (omega (arith, eqb-false _ _ (sym (c.if-is_empty.ensures)))) c.words-words.ensures.sound).there).0 }

pub split-requires-2 : goal.split-requires-2
split-requires-2 c = record { there = ap outs_in c.split.ensures.rest ∙ (and_parts _ _ (front c.words-words.result.now (omega (arith, eqb-false _ _ (sym (c.if-is_empty.ensures)))) c.words-words.ensures.sound).there).1 }

pub of-self-requires : goal.of-self-requires
of-self-requires c =
    let rest = c.split-2.ensures.rest ∙ ap past_outs c.split.ensures.rest in
    record { sound = ap sound rest ∙ (front c.words-words.result.now (omega (arith, eqb-false _ _ (sym (c.if-is_empty.ensures)))) c.words-words.ensures.sound).rest }

-- what stood in front, and what is left
stands : (c : goal.After-self-1) → rules_in c.args.self.now.left ≡ rule_of (record { wants = c.split.result.0; outs = c.split-2.result.0 }) ∷ rules_in c.of-self.result
stands c =
    let ws = c.words-words.result.now in
    let rest = c.of-self.ensures.value ∙ c.split-2.ensures.rest ∙ ap past_outs c.split.ensures.rest in
    let left = c.split-2.ensures.left ∙ ap number c.split.ensures.rest in
    let outs = c.split-2.ensures.outs ∙ ap (drop 1) c.split.ensures.rest in
    ap rules_of (sym c.words-words.ensures.value)
    ∙ (front ws (omega (arith, eqb-false _ _ (sym (c.if-is_empty.ensures)))) c.words-words.ensures.sound).rules
    ∙ (λ i. record { wants = wants_of (sym c.split.ensures.pairs i); outs = outs_from (sym left i) (sym outs i) } ∷ rules_of (sym rest i))

pub returns-clause-steps : goal.returns-clause-steps
returns-clause-steps c = stands c

pub returns-clause-goes : goal.returns-clause-goes
returns-clause-goes c = record { on = λ _. (tt, tt, omega (arith, ap length (stands c))); keeps = tt; rests = λ _. tt }
