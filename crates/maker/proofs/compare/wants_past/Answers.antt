use Rattle.std.proofs.Common.{◌∙◌, arith, ltb-false, ltb-true, leb-false, leb-true}
use Rattle.maker.proofs.Steps.{wants_more}
use Rattle.maker.proofs.compare.wants_past.Goals as goal

pub loop-i-preserved : goal.loop-i-preserved
loop-i-preserved c =
    wants_more _ _ _ c.loop-i-test.true _ _ _ _ _ (omega (arith, ltb-false, leb-false, ltb-true, leb-true)) c.in_ok-less.ensures.value ∙ c.loop-i.invariant
