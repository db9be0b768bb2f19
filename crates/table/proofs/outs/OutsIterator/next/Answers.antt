-- The out in front.
use Rattle.std.proofs.Common.{◌-◌, length, ap, ◌∙◌, arith}
use Rattle.table.specs.Words.{outs_in_from}
use Rattle.table.proofs.Reading.{outs_none, outs_more, outs_parts}
use Rattle.table.proofs.outs.OutsIterator.next.Goals as goal

pub returns-then-self-eq0-clause-steps : goal.returns-then-self-eq0-clause-steps
returns-then-self-eq0-clause-steps c =
    let s = c.args.self.now in
    let none = outs_none s.left s.words.now c.if-self-eq0.true in
    (none, none)

pub split-requires : goal.split-requires
split-requires c =
    let s = c.args.self.now in
    record { there = (outs_parts s.left s.words.now (omega (arith, c.if-self-eq0.false)) s.there).0 }

pub invariant_of-self : goal.invariant_of-self
invariant_of-self c =
    let s = c.args.self.now in
    record {
      few = omega (arith, s.few);
      there = ap (outs_in_from (s.left - 1)) c.split.ensures.rest ∙ (outs_parts s.left s.words.now (omega (arith, c.if-self-eq0.false)) s.there).1;
    }

pub returns-clause-steps : goal.returns-clause-steps
returns-clause-steps c =
    let s = c.args.self.now in
    outs_more s.left s.words.now _ _ (omega (arith, c.if-self-eq0.false)) c.split.ensures.pairs c.split.ensures.rest

pub returns-clause-goes : goal.returns-clause-goes
returns-clause-goes c =
    let s = c.args.self.now in
    record {
      on = λ _. (tt, tt, omega (arith, ap length (outs_more s.left s.words.now _ _ (omega (arith, c.if-self-eq0.false)) c.split.ensures.pairs c.split.ensures.rest)));
      keeps = tt;
      rests = λ _. tt;
    }
