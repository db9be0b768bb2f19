use Rattle.std.proofs.Common.{true, sym, arith}
use Rattle.std.proofs.lemmas.List.{set_past}
use Rattle.notation.proofs.used.Used.mark.Goals as goal

pub returns-else-k-lt-MOST : goal.returns-else-k-lt-MOST
returns-else-k-lt-MOST c = record { after = sym (set_past c.args.self.now.flags c.args.k true (omega arith)) }
