-- What is written and what is left to write, for which there is room.
use Rattle.std.proofs.Common.{◌≡◌, ◌+◌, ◌≤◌, ◌++◌, length, vec_len, vec_capacity}
use Rattle.std.specs.List.{flat_map}
use Rattle.table.specs.Bytes.{out_bytes}
use Rattle.table.specs.Views.{outs_in}
use Rattle.table.proofs.writes.outs.Given as goal

abbrev pub invariant-loop-settings : goal.invariant-loop-settings
invariant-loop-settings l =
    (goal.iterator-loop-settings).can_next l.settings-iterator
    × (goal.iterator-loop-settings).is_finite l.settings-iterator
    × (vec_len l.out + length (flat_map out_bytes (outs_in l.settings-iterator)) ≤ vec_capacity l.out)
    × (l.out.items ++ flat_map out_bytes (outs_in l.settings-iterator) ≡ l.initial.out.items ++ flat_map out_bytes (outs_in l.fn.outs))
    × (vec_capacity l.initial.out ≤ vec_capacity l.out)
