use Rattle.std.proofs.Common.{◌-◌, length, Ok, ap, ◌∙◌, arith}
use Rattle.text.specs.Texts.{nodes_of}
use Rattle.meaning.specs.Evaluators.{text_of}
use Rattle.leaves.proofs.Outcome.{last_answered, leaf_given}
use Rattle.leaves.proofs.outs.Outs.of.Goals as goal

pub returns-clause-cases : goal.returns-clause-cases
returns-clause-cases c =
    let ns = nodes_of (text_of c.args.evaluator.now) in
    let long = ap length (c.nodes.ensures.value ∙ ap nodes_of c.text.ensures.value) in
    leaf_given ns c.args.p.fields c.in_ok-copies.copies _ c.from_copies.result
    (last_answered ns _ c.args.p.fields (Ok c.in_ok-copies.copies) (omega (arith, long)) (ap (λ n. n - 1) long) c.in_ok-copies.ensures.cases)
    c.as_slice.ensures.value c.from_copies.ensures.value
