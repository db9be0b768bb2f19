-- So many rules are read.
use Rattle.table.specs.Words.{rule_words}
use Rattle.tablebytes.specs.Format as spec
use Rattle.tablebytes.proofs.Filling.{Going}
use Rattle.tablebytes.proofs.filler.Filler.table.Given as goal

abbrev pub invariant-loop-i : goal.invariant-loop-i
invariant-loop-i l = Going spec.rule rule_words l.n l._i l.initial.self l.self
