use Rattle.std.proofs.Common.{◌≡◌, ◌++◌, drop}
use Rattle.packet.specs.Packet.{once}
use Rattle.packet.specs.Copies.{listing}
use Rattle.packet.specs.Listed.{fields_of}
use Rattle.packet.proofs.copies.Copies.join.Given as goal

abbrev pub invariant-loop-p : goal.invariant-loop-p
invariant-loop-p g l = once (listing l.self ++ drop l.p-index (fields_of l.p-items)) ≡ once (listing l.initial.self ++ fields_of l.p-items)
