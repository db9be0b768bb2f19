use Rattle.std.proofs.Common.{length, sym, ◌∙◌, arith}
use Rattle.std.proofs.lemmas.Bool.{eqb-false}
use Rattle.maker.proofs.Steps.{rules_more}
use Rattle.maker.proofs.compare.same_without.Goals as goal

pub loop-i-preserved : goal.loop-i-preserved
loop-i-preserved c =
    let some = eqb-false (length c.loop-i.ys.now) 0 (sym c.if-is_empty.ensures) in
    rules_more _ _ _ c.loop-i-test.true c.loop-i.ys.now c.loop-i.ns.now _ _ (omega (arith, some)) c.in-Some.ensures.value ∙ c.loop-i.invariant
