use Rattle.std.proofs.Common.{◌∙◌}
use Rattle.maker.proofs.Steps.{outs_more}
use Rattle.maker.proofs.compare.outs_past.Goals as goal

pub loop-i-preserved : goal.loop-i-preserved
loop-i-preserved c = outs_more _ _ c.loop-i-test.true _ _ _ _ c.in_ok-more.ensures.value ∙ c.loop-i.invariant
