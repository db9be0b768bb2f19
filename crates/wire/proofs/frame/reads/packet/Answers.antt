use Rattle.std.proofs.Common.{◌∙◌, arith}
use Rattle.std.proofs.lemmas.List.{length-set}
use Rattle.wire.proofs.Fields.{fields_more}
use Rattle.wire.proofs.frame.reads.packet.Goals as goal

pub loop-field-preserved : goal.loop-field-preserved
loop-field-preserved c = (
  length-set _ _ _ ∙ c.loop-field.invariant.0,
  fields_more 7 c.loop-field.field-index _ _ c.loop-field.field-items _ _ (omega (arith, c.loop-field-test.true, c.loop-field.invariant.0)) c.loop-field.invariant.0 c.in_ok-field.ensures
      ∙ c.loop-field.invariant.1,
)
