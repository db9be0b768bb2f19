use Rattle.std.proofs.Common.{◌≡◌, ◌+◌, ◌-◌, ◌*◌, ◌≤◌, ◌++◌, length, take, vec_items, vec_len, vec_capacity}
use Rattle.std.specs.List.{flat_map}
use Rattle.wire.proofs.coded.append.Given as goal

abbrev pub invariant-loop-item : goal.invariant-loop-item
invariant-loop-item g l =
    (vec_items l.out ≡ vec_items l.fn.out ++ flat_map (g.T.Coded.code) (take l.item-index l.items))
    × (vec_len l.out + g.row.N * (length l.items - l.item-index) ≤ vec_capacity l.out)
    × (vec_len l.out ≡ vec_len l.fn.out + g.row.N * l.item-index)
    × (vec_capacity l.fn.out ≤ vec_capacity l.out)
