-- A field that has the value already need not be set.
use Rattle.std.proofs.Common.{get_or, None, rules}
use Rattle.trees.proofs.Applied.{applied_like, filtered}
use Rattle.trees.proofs.out.Out.without.Goals as goal

pub returns-then-f-lt8 : goal.returns-then-f-lt8
returns-then-f-lt8 c =
    let v = get_or c.args.self.sets c.args.f None in
    record {
      value =
          λ p l e.
          applied_like c.args.self.sets p c.args.f c.filter.result
          (rw e (filtered v c.filter.result c.args.x c.filter.ensures (λ y b q. search rules)));
    }
