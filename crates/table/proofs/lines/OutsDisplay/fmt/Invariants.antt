-- Which outs are printed behind the first, and which are left.
use Rattle.std.proofs.Common.{◌≡◌, ◌++◌, map, codes}
use Rattle.std.specs.Fmt.{HasWritten, IsPlainFormatter}
use Rattle.std.specs.List.{flat_map}
use Rattle.table.specs.Lines.{out_text}
use Rattle.table.specs.Views.{settings_in, outs_in}
use Rattle.table.proofs.lines.OutsDisplay.fmt.Given as goal

abbrev pub invariant-loop-pairs : goal.invariant-loop-pairs
invariant-loop-pairs g l =
    (goal.iterator-loop-pairs g).can_next l.pairs-iterator
    × (goal.iterator-loop-pairs g).is_finite l.pairs-iterator
    × (outs_in l.initial.pairs-iterator ≡ map settings_in l.yielded ++ outs_in l.pairs-iterator)
    × (IsPlainFormatter l.initial.f → HasWritten g.W.Write.write_str_gives l.initial.f (flat_map (λ o. codes " | " ++ out_text (settings_in o)) l.yielded) l.f)
