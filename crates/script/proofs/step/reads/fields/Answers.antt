use Rattle.std.proofs.Common.{◌∙◌, arith}
use Rattle.std.proofs.lemmas.List.{length-set}
use Rattle.script.proofs.Numbered.{numbers_more}
use Rattle.script.proofs.step.reads.fields.Goals as goal

pub loop-field-preserved : goal.loop-field-preserved
loop-field-preserved c = (
  length-set _ _ _ ∙ c.loop-field.invariant.0,
  numbers_more 8 c.loop-field.field-index _ c.loop-field.field-items _ _ (omega (arith, c.loop-field-test.true, c.loop-field.invariant.0)) c.loop-field.invariant.0 c.in_ok-field.ensures.value
      ∙ c.loop-field.invariant.1,
)
