use Rattle.std.proofs.Common.{◌≡◌, ◌+◌, ◌-◌, ◌*◌, ◌≤◌, ◌++◌, length, take, vec_items, vec_len, vec_capacity}
use Rattle.std.specs.List.{flat_map}
use Rattle.text.specs.Format.{node_bytes}
use Rattle.text.proofs.format.writes.append_nodes.Given as goal

abbrev pub invariant-loop-n : goal.invariant-loop-n
invariant-loop-n l =
    (vec_items l.out ≡ vec_items l.initial.out ++ flat_map node_bytes (take l.n-index l.nodes))
    × (vec_len l.out + 5 * (length l.nodes - l.n-index) ≤ vec_capacity l.out)
