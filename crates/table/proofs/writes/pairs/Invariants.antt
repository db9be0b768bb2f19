-- What is written and what is left to write, for which there is room.
use Rattle.std.proofs.Common.{◌≡◌, ◌+◌, ◌≤◌, ◌++◌, length, vec_len, vec_capacity}
use Rattle.std.specs.List.{flat_map}
use Rattle.table.specs.Bytes.{setting_bytes}
use Rattle.table.specs.Views.{settings_in}
use Rattle.table.proofs.writes.pairs.Given as goal

abbrev pub invariant-loop-pair : goal.invariant-loop-pair
invariant-loop-pair l =
    (goal.iterator-loop-pair).can_next l.pair-iterator
    × (goal.iterator-loop-pair).is_finite l.pair-iterator
    × (vec_len l.out + length (flat_map setting_bytes (settings_in l.pair-iterator)) ≤ vec_capacity l.out)
    × (l.out.items ++ flat_map setting_bytes (settings_in l.pair-iterator) ≡ l.initial.out.items ++ flat_map setting_bytes (settings_in l.fn.pairs))
    × (vec_capacity l.initial.out ≤ vec_capacity l.out)
