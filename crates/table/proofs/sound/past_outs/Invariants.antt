-- The outs that are still to be looked at.
use Rattle.std.proofs.Common.{◌≡◌, ◌-◌, drop}
use Rattle.table.specs.Words.{number, past_from, outs_in_from}
use Rattle.table.proofs.sound.past_outs.Given as goal

abbrev pub invariant-loop-i : goal.invariant-loop-i
invariant-loop-i l =
    (outs_in_from (number l.words - l._i) l.rest ≡ outs_in_from (number l.words) (drop 1 l.words))
    × (past_from (number l.words - l._i) l.rest ≡ past_from (number l.words) (drop 1 l.words))
