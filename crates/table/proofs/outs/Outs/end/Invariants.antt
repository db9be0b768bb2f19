-- The outs that are still to be passed.
use Rattle.std.proofs.Common.{◌≡◌, ◌-◌, true}
use Rattle.table.specs.Words.{past_from, outs_in_from}
use Rattle.table.proofs.outs.Outs.end.Given as goal

abbrev pub invariant-loop-i : goal.invariant-loop-i
invariant-loop-i l =
    (outs_in_from (l.self.left - l._i) l.rest ≡ true) × (past_from (l.self.left - l._i) l.rest ≡ past_from l.self.left l.self.words.now)
