-- One field more is set.
use Rattle.std.proofs.Common.{arith}
use Rattle.trees.proofs.Applied.{applied_set, put_past}
use Rattle.trees.proofs.out.Out.with.Goals as goal

pub returns-then-f-lt8 : goal.returns-then-f-lt8
returns-then-f-lt8 c = record { value = λ p h. applied_set c.args.self.sets p c.args.f c.args.x (omega arith) }

pub returns-else-f-lt8 : goal.returns-else-f-lt8
returns-else-f-lt8 c = record { value = λ p h. put_past c.args.self.sets p c.args.f c.args.x (omega arith) }
