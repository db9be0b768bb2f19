use Rattle.std.proofs.Common.{Ok}
use Rattle.meaning.proofs.Answering.{answer_of_lem, keep_gives}
use Rattle.meaning.proofs.evaluator.Evaluator.give_keep.Goals as goal

pub returns-in-Some-clause-answer : goal.returns-in-Some-clause-answer
returns-in-Some-clause-answer c = answer_of_lem _ _ _ (Ok c.kept_if.result) c.requires.is (keep_gives _ _ _ c.kept_if.result c.in-Some.ensures.value c.kept_if.ensures.value)

pub remember-requires-clause-right : goal.remember-requires-clause-right
remember-requires-clause-right c =
    rw c.passes_anew.ensures.text
    (answer_of_lem _ _ _ (Ok c.kept_if-copies.result) c.requires.is (keep_gives _ _ _ c.kept_if-copies.result c.passes_anew.ensures.value c.kept_if-copies.ensures.value))

pub returns-clause-answer : goal.returns-clause-answer
returns-clause-answer c =
    answer_of_lem _ _ _ (Ok c.kept_if-copies.result) c.requires.is (keep_gives _ _ _ c.kept_if-copies.result c.passes_anew.ensures.value c.kept_if-copies.ensures.value)
