use Rattle.std.proofs.Common.{◌∙◌, arith}
use Rattle.maker.proofs.Ends.{outs_more}
use Rattle.maker.proofs.end.outs_after.Goals as goal

pub loop-i-preserved : goal.loop-i-preserved
loop-i-preserved c =
    (outs_more _ _ c.loop-i-test.true _ _ c.in_ok-words.ensures.value ∙ c.loop-i.invariant.0, omega (arith, c.in_ok-words.ensures.shorter, c.loop-i.invariant.1))
