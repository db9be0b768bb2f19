-- One pair more, as a want and as a setting.
use Rattle.table.specs.Words.{want_words, setting_words}
use Rattle.tablebytes.specs.Format as spec
use Rattle.tablebytes.proofs.Filling.{going_more, counted_all}
use Rattle.tablebytes.proofs.filler.Filler.pairs.Goals as goal

pub loop-i-preserved : goal.loop-i-preserved
loop-i-preserved c =
    let g = c.loop-i.invariant in
    let more = c.in_ok-pair.ensures in (
      going_more spec.want want_words c.in_ok-n.n c.loop-i._i c.number.new.self c.loop-i.self g.0 c.pair.new.self c.loop-i-test.true more.want,
      going_more spec.setting setting_words c.in_ok-n.n c.loop-i._i c.number.new.self c.loop-i.self g.1 c.pair.new.self c.loop-i-test.true more.setting,
    )

pub returns-clause-wants : goal.returns-clause-wants
returns-clause-wants c =
    let n = c.in_ok-n.ensures in
    counted_all spec.want want_words 8 2 c.args.self.now c.in_ok-n.n c.loop-i._i c.number.new.self c.loop-i.self c.loop-i.invariant.0 n.value n.written
    c.loop-i-test.false

pub returns-clause-out : goal.returns-clause-out
returns-clause-out c =
    let n = c.in_ok-n.ensures in
    counted_all spec.setting setting_words 8 2 c.args.self.now c.in_ok-n.n c.loop-i._i c.number.new.self c.loop-i.self c.loop-i.invariant.1 n.value n.written
    c.loop-i-test.false
