use Rattle.std.proofs.Common.{vec_items}
use Rattle.meaning.specs.Memos.{Blank}
use Rattle.meaning.proofs.evaluator.calls.blank.Given as goal

abbrev pub invariant-loop-i : goal.invariant-loop-i
invariant-loop-i l = Blank l._i (vec_items l.kept)
