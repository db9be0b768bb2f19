-- What is gathered and what is left to gather.
use Rattle.std.proofs.Common.{◌≡◌, ◌++◌}
use Rattle.packet.specs.Copies.{listing}
use Rattle.packet.specs.Packet.{once}
use Rattle.packet.specs.Table.{outputs}
use Rattle.table.specs.Views.{outs_in}
use Rattle.table.proofs.matching.copies.Given as goal

abbrev pub invariant-loop-out : goal.invariant-loop-out
invariant-loop-out l =
    (goal.iterator-loop-out).can_next l.out-iterator
    × (goal.iterator-loop-out).is_finite l.out-iterator
    × (once (listing l.sent ++ outputs (outs_in l.out-iterator) l.p.fields) ≡ once (outputs (outs_in l.fn.outs) l.p.fields))
