use Rattle.std.proofs.Common.{◌≡◌, ◌≤◌, take, vec_items, vec_len, vec_capacity}
use Rattle.text.specs.Texts.{nodes_of}
use Rattle.prescribed.specs.Order.{rising, less_want}
use Rattle.leaves.specs.Pairs.{wants_of}
use Rattle.leaves.specs.Under.{marked, test_of}
use Rattle.leaves.proofs.pairs.Pairs.of.Given as goal

abbrev pub invariant-loop-k : goal.invariant-loop-k
invariant-loop-k l =
    (vec_len l.items ≤ l.k)
    × (512 ≤ vec_capacity l.items)
    × (wants_of (vec_items l.items) ≡ rising less_want (marked test_of l.row (take l.k (nodes_of l.text))))
