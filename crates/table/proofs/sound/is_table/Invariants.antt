-- The rules that are still to be looked at.
use Rattle.std.proofs.Common.{◌≡◌, ◌-◌}
use Rattle.table.specs.Words.{most_rules, sound_from, sound}
use Rattle.table.proofs.sound.is_table.Given as goal

abbrev pub invariant-loop-i : goal.invariant-loop-i
invariant-loop-i l = sound_from (most_rules - l._i) l.rest ≡ sound l.words
