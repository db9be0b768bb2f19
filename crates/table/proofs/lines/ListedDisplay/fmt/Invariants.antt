-- Which pairs are printed behind the first, and which are left.
use Rattle.std.proofs.Common.{◌≡◌, ◌++◌, map, codes}
use Rattle.std.specs.Fmt.{HasWritten, IsPlainFormatter}
use Rattle.std.specs.List.{flat_map}
use Rattle.packet.specs.Pairs.{setting_of}
use Rattle.table.specs.Lines.{setting_text}
use Rattle.table.specs.Views.{settings_in}
use Rattle.table.proofs.lines.ListedDisplay.fmt.Given as goal

abbrev pub invariant-loop-pair : goal.invariant-loop-pair
invariant-loop-pair g l =
    (goal.iterator-loop-pair g).can_next l.pair-iterator
    × (goal.iterator-loop-pair g).is_finite l.pair-iterator
    × (settings_in l.initial.pair-iterator ≡ map setting_of l.yielded ++ settings_in l.pair-iterator)
    × (IsPlainFormatter l.initial.f → HasWritten g.W.Write.write_str_gives l.initial.f (flat_map (λ p. codes " " ++ setting_text (setting_of p)) l.yielded) l.f)
