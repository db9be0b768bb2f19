use Rattle.std.proofs.Common.{◌≡◌, ◌+◌, ◌*◌, ◌≤◌, ◌++◌, length, take}
use Rattle.std.specs.List.{flat_map}
use Rattle.maker.specs.Leaves.{pair_words}
use Rattle.maker.proofs.leaf.pairs.Given as goal

abbrev pub invariant-loop-p : goal.invariant-loop-p
invariant-loop-p l =
    (length l.words.items ≤ length l.initial.words.items + 2 * l.p-index)
    × (l.words.items ≡ l.initial.words.items ++ flat_map pair_words (take l.p-index l.ps))
