-- The settings that are left make of what was set so far what all of them make of the packet.
use Rattle.std.proofs.Common.{◌≡◌, length}
use Rattle.packet.specs.Packet.{Packet}
use Rattle.packet.specs.Table.{set_all}
use Rattle.table.specs.Views.{settings_in}
use Rattle.trees.specs.Outs.{applied}
use Rattle.trees.proofs.tables.out_of.Given as goal

abbrev pub invariant-loop-s : goal.invariant-loop-s
invariant-loop-s l =
    (goal.iterator-loop-s).can_next l.s-iterator
    × (goal.iterator-loop-s).is_finite l.s-iterator
    × ((p : Packet) → length p ≡ 8 → set_all (settings_in l.s-iterator) (applied l.out.sets p) ≡ set_all (settings_in l.fn.settings) p)
