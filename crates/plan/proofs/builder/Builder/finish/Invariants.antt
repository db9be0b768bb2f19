-- The texts so far, in front of what the other slots give.
use Rattle.std.proofs.Common.{◌≡◌, ◌+◌, ◌≤◌, map, length, vec_items, vec_len, vec_capacity}
use Rattle.plan.specs.Parts.{text_in}
use Rattle.plan.specs.Slots.{whole}
use Rattle.plan.specs.Views.{slot_of}
use Rattle.plan.proofs.Whole.{before}
use Rattle.plan.proofs.builder.Builder.finish.Given as goal

abbrev pub invariant-loop-slot : goal.invariant-loop-slot
invariant-loop-slot l =
    (whole (map slot_of (vec_items l.fn.self.parts)) ≡ before (map text_in (vec_items l.parts)) (whole (map slot_of l.slot-iterator.rest.items)))
    × (vec_len l.parts + length l.slot-iterator.rest.items ≤ vec_capacity l.parts)
    × (vec_len l.parts + length l.slot-iterator.rest.items ≤ vec_len l.fn.self.parts)
