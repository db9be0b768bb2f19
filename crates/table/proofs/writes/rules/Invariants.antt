-- What is written and what is left to write, for which there is room.
use Rattle.std.proofs.Common.{◌≡◌, ◌+◌, ◌≤◌, ◌++◌, length, vec_len, vec_capacity}
use Rattle.std.specs.List.{flat_map}
use Rattle.table.specs.Bytes.{rule_bytes}
use Rattle.table.specs.Views.{rules_in}
use Rattle.table.proofs.writes.rules.Given as goal

abbrev pub invariant-loop-r : goal.invariant-loop-r
invariant-loop-r l =
    (goal.iterator-loop-r).can_next l.r-iterator
    × (goal.iterator-loop-r).is_finite l.r-iterator
    × (vec_len l.out + length (flat_map rule_bytes (rules_in l.r-iterator.left)) ≤ vec_capacity l.out)
    × (l.out.items ++ flat_map rule_bytes (rules_in l.r-iterator.left) ≡ l.initial.out.items ++ flat_map rule_bytes (rules_in l.fn.table))
