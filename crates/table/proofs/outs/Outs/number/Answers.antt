-- They are few.
use Rattle.std.proofs.Common.{arith, inl}
use Rattle.std.proofs.Math.Facts.{Fits-of_lt}
use Rattle.table.proofs.Reading.{outs_length}
use Rattle.table.proofs.outs.Outs.number.Goals as goal

pub count-requires-clause-fits : goal.count-requires-clause-fits
count-requires-clause-fits c = let s = c.args.self in inl (omega (arith, outs_length s.left s.words.now, s.few))

pub overflow_cast-result : goal.overflow_cast-result
overflow_cast-result c = let s = c.args.self in Fits-of_lt (omega (arith, c.count.ensures.bound, outs_length s.left s.words.now, s.few))
