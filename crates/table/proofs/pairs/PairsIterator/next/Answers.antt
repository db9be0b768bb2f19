-- The pair in front.
use Rattle.std.proofs.Common.{length, ap, ◌∙◌, arith}
use Rattle.std.proofs.Math.Facts.{Fits-of_lt}
use Rattle.std.proofs.lemmas.List.{take_rest, length-drop}
use Rattle.table.specs.Words.{are_pairs}
use Rattle.table.proofs.Reading.{pairs_none, pairs_more, pairs_parts}
use Rattle.table.proofs.pairs.PairsIterator.next.Goals as goal

pub returns-in_default-clause-steps : goal.returns-in_default-clause-steps
returns-in_default-clause-steps c = let none = pairs_none c.args.self.now.words.now (omega (arith, c.in_default.len_below)) in (none, none)

pub invariant_of-self : goal.invariant_of-self
invariant_of-self c =
    let ws = c.args.self.now.words.now in
    record {
      few = omega (arith, c.args.self.now.few, ap length (take_rest ws 2), length-drop 2 ws);
      there = ap are_pairs (take_rest ws 2) ∙ (pairs_parts ws (omega (arith, c.in-len2-up.len_at_least)) c.args.self.now.there).1;
    }

pub overflow_cast-result : goal.overflow_cast-result
overflow_cast-result c =
    let ws = c.args.self.now.words.now in
    Fits-of_lt (omega (arith, (pairs_parts ws (omega (arith, c.in-len2-up.len_at_least)) c.args.self.now.there).0))

pub returns-clause-steps : goal.returns-clause-steps
returns-clause-steps c =
    let ws = c.args.self.now.words.now in
    pairs_more ws _ (omega (arith, c.in-len2-up.len_at_least)) (take_rest ws 2)

pub returns-clause-goes : goal.returns-clause-goes
returns-clause-goes c =
    let ws = c.args.self.now.words.now in
    record {
      on = λ _. (tt, tt, omega (arith, ap length (pairs_more ws _ (omega (arith, c.in-len2-up.len_at_least)) (take_rest ws 2))));
      keeps = tt;
      rests = λ _. tt;
    }
