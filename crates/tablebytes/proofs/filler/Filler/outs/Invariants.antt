-- So many outs are read.
use Rattle.table.specs.Words.{out_words}
use Rattle.tablebytes.specs.Format as spec
use Rattle.tablebytes.proofs.Filling.{Going}
use Rattle.tablebytes.proofs.filler.Filler.outs.Given as goal

abbrev pub invariant-loop-i : goal.invariant-loop-i
invariant-loop-i l = Going spec.out out_words l.n l._i l.initial.self l.self
