use Rattle.std.proofs.Common.{sym}
use Rattle.text.specs.declared.node.Sort.TheVariants.{Test}
use Rattle.text.proofs.Sound.{fitting_there}
use Rattle.meaning.proofs.evaluator.Evaluator.holds.Goals as goal

pub passes-requires : goal.passes-requires
passes-requires c = record { within = fitting_there Test _ c.args.k (sym c.if-not-is_test.ensures.value) }
