-- They are few.
use Rattle.std.proofs.Common.{arith, inl}
use Rattle.std.proofs.Math.Facts.{Fits-of_lt}
use Rattle.table.proofs.Reading.{pairs_few}
use Rattle.table.proofs.pairs.Pairs.number.Goals as goal

pub count-requires-clause-fits : goal.count-requires-clause-fits
count-requires-clause-fits c = inl (omega (arith, pairs_few c.args.self.words.now, c.args.self.few))

pub overflow_cast-result : goal.overflow_cast-result
overflow_cast-result c = Fits-of_lt (omega (arith, c.count.ensures.bound, pairs_few c.args.self.words.now, c.args.self.few))
