-- At the first mark, and without one.
use Rattle.std.proofs.Common.{rules, add-one}
use Rattle.std.proofs.lemmas.List.{take_rest}
use Rattle.notation.proofs.Cuts.{front_at, front_all, back_at, back_all}
use Rattle.notation.proofs.marks.cut.Goals as goal

pub returns-in-Some-clause-front : goal.returns-in-Some-clause-front
returns-in-Some-clause-front c = front_at c.args.mark c.args.bytes.now c.in-Some.i (search rules) (search rules) (search rules)

pub returns-in-Some-clause-back : goal.returns-in-Some-clause-back
returns-in-Some-clause-back c =
    rw (take_rest, add-one) (back_at c.args.mark c.args.bytes.now c.in-Some.i (search rules) (search rules) (search rules))

pub returns-in-None-clause-front : goal.returns-in-None-clause-front
returns-in-None-clause-front c = front_all c.args.mark c.args.bytes.now (search rules)

pub returns-in-None-clause-back : goal.returns-in-None-clause-back
returns-in-None-clause-back c = back_all c.args.mark c.args.bytes.now (search rules)
