use Rattle.std.proofs.Common.{length, ap, ◌∙◌, arith}
use Rattle.std.proofs.lemmas.List.{length-map, take_at}
use Rattle.text.specs.Texts.{nodes_of}
use Rattle.text.specs.Trees.{meaning}
use Rattle.meaning.specs.Evaluators.{text_of}
use Rattle.packet.specs.Pairs.{want_of}
use Rattle.table.specs.Words.{rule_words}
use Rattle.leaves.specs.Outs.{settings_of, outs_of}
use Rattle.maker.specs.Knowing.{known_of}
use Rattle.maker.proofs.LeafRule.{leaf_made, leaf_crowded}
use Rattle.maker.proofs.Recursing.{failed}
use Rattle.maker.proofs.leaf.leaf.Goals as goal

pub returns-in_err-outs-clause-made : goal.returns-in_err-outs-clause-made
returns-in_err-outs-clause-made c =
    let a = meaning (nodes_of (text_of c.args.evaluator.now)) in
    let is = ap (λ p. p.fields) c.sample.ensures.value ∙ c.requires.sample in
    let h = c.in_err-outs.ensures.cases in
    failed _ _ _ _ _ _ (leaf_crowded a (known_of c.args.known.now) _ is c.args.out.now h.0, h.1) c.from_residual.ensures.1

pub returns-clause-made : goal.returns-clause-made
returns-clause-made c =
    let a = meaning (nodes_of (text_of c.args.evaluator.now)) in
    let is = ap (λ p. p.fields) c.sample.ensures.value ∙ c.requires.sample in
    let wants = c.as_slice.ensures.value in
    let outs = c.as_slice-2.ensures.value in
    let written = c.copy_from_slice.ensures.after ∙ c.as_slice-3.ensures.value in
    leaf_made a (known_of c.args.known.now) c.sample.result.fields is (outs_of c.in_ok-outs.outs) _ c.len-count.result c.in_ok-outs.ensures.cases.0 c.in_ok-outs.ensures.cases.1
    (omega (arith, ap length wants, length-map c.as_slice.result.now want_of, c.as_slice.ensures.few)) c.requires.low
    (omega (arith, ap length outs, length-map c.as_slice-2.result.now settings_of, c.as_slice-2.ensures.few))
    (take_at c.copy_from_slice.new.self _ c.len-count.result (omega (arith, ap length written, c.len-count.ensures.value)) ∙ written ∙ c.rule-words.ensures.words
    ∙ (λ i. rule_words (record { wants = wants i; outs = outs i })))
    (omega (arith, c.len-count.ensures.value, c.rule-words.ensures.room))
