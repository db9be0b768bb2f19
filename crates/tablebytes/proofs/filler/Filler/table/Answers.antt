-- One rule more.
use Rattle.table.specs.Words.{rule_words}
use Rattle.tablebytes.specs.Format as spec
use Rattle.tablebytes.proofs.Filling.{going_more}
use Rattle.tablebytes.proofs.filler.Filler.table.Goals as goal

pub loop-i-preserved : goal.loop-i-preserved
loop-i-preserved c =
    going_more spec.rule rule_words c.in_ok-n.n c.loop-i._i _ c.loop-i.self c.loop-i.invariant c.rule.new.self c.loop-i-test.true c.in_ok-rule.ensures
