use Rattle.std.proofs.Common.{◌<◌, length, sym, ap, arith}
use Rattle.std.proofs.lemmas.Bool.{eqb-true, eqb-false}
use Rattle.notation.proofs.Turns.{parts_at, no_parts}
use Rattle.notation.proofs.parts.PartsIterator.next.Goals as goal

pub returns-then-is_empty-clause-steps : goal.returns-then-is_empty-clause-steps
returns-then-is_empty-clause-steps c =
    let none = sym (no_parts c.args.self.now.mark c.args.self.now.bytes.now (eqb-true _ 0 (sym c.if-is_empty.ensures))) in
    (none, none)

pub returns : goal.returns
returns c =
    let bs = c.args.self.now.bytes.now in
    let more : 0 < length bs = omega (arith, eqb-false (length bs) 0 (sym c.if-is_empty.ensures)) in
    let part = sym (parts_at c.args.self.now.mark bs _ _ more c.cut.ensures.front c.cut.ensures.back) in
    record { steps = part; goes = record { on = λ _. (tt, tt, omega (arith, ap length part)); keeps = tt; rests = λ _. tt } }
