use Rattle.std.proofs.Common.{◌≡◌, ◌+◌, ◌*◌, ◌≤◌, ◌++◌, map, length, take}
use Rattle.std.specs.List.{flat_map}
use Rattle.table.specs.Words.{out_words}
use Rattle.leaves.specs.Outs.{settings_of}
use Rattle.maker.proofs.leaf.outs.Given as goal

abbrev pub invariant-loop-o : goal.invariant-loop-o
invariant-loop-o l =
    (length l.words.items ≤ length l.initial.words.items + 17 * l.o-index)
    × (l.words.items ≡ l.initial.words.items ++ flat_map out_words (take l.o-index (map settings_of l.os)))
