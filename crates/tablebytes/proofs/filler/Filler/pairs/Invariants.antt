-- So many pairs are read: as wants, and as settings.
use Rattle.table.specs.Words.{want_words, setting_words}
use Rattle.tablebytes.specs.Format as spec
use Rattle.tablebytes.proofs.Filling.{Going}
use Rattle.tablebytes.proofs.filler.Filler.pairs.Given as goal

abbrev pub invariant-loop-i : goal.invariant-loop-i
invariant-loop-i l = Going spec.want want_words l.n l._i l.initial.self l.self × Going spec.setting setting_words l.n l._i l.initial.self l.self
