-- One out more.
use Rattle.table.specs.Words.{out_words}
use Rattle.tablebytes.specs.Format as spec
use Rattle.tablebytes.proofs.Filling.{going_more, counted_all}
use Rattle.tablebytes.proofs.filler.Filler.outs.Goals as goal

pub loop-i-preserved : goal.loop-i-preserved
loop-i-preserved c =
    going_more spec.out out_words c.in_ok-n.n c.loop-i._i c.number.new.self c.loop-i.self c.loop-i.invariant c.pairs.new.self c.loop-i-test.true
    c.in_ok-pairs.ensures.out

pub returns : goal.returns
returns c =
    let n = c.in_ok-n.ensures in
    counted_all spec.out out_words 16 6 c.args.self.now c.in_ok-n.n c.loop-i._i c.number.new.self c.loop-i.self c.loop-i.invariant n.value n.written
    c.loop-i-test.false
