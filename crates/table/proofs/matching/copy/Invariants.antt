-- The settings that are left make of the packet so far what all of them make of the packet.
use Rattle.std.proofs.Common.{◌≡◌}
use Rattle.packet.specs.Table.{set_all}
use Rattle.table.specs.Views.{settings_in}
use Rattle.table.proofs.matching.copy.Given as goal

abbrev pub invariant-loop-setting : goal.invariant-loop-setting
invariant-loop-setting l =
    (goal.iterator-loop-setting).can_next l.setting-iterator
    × (goal.iterator-loop-setting).is_finite l.setting-iterator
    × (set_all (settings_in l.setting-iterator) l.q.fields ≡ set_all (settings_in l.fn.out) l.fn.p.fields)
