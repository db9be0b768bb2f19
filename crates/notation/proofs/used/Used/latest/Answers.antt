use Rattle.std.proofs.Common.{rules, ◌∙◌}
use Rattle.notation.proofs.Flags.{front_here, front_none}
use Rattle.notation.proofs.used.Used.latest.Goals as goal

pub returns-in_err-latest : goal.returns-in_err-latest
returns-in_err-latest c = record { value = c.from_residual.ensures ∙ front_none c.args.self.now.flags c.args.n (search rules) (search rules) }

pub returns : goal.returns
returns c = record { value = front_here c.args.self.now.flags c.args.n (search rules) c.in_ok-latest.latest (search rules) (search rules) (search rules) }
