use Rattle.std.proofs.Common.{refl, arith}
use Rattle.packet.specs.Packet.{once}
use Rattle.packet.proofs.copies.Copies.none.Goals as goal

pub invariant_of-result : goal.invariant_of-result
unfolding once
invariant_of-result g c = record { few = omega arith; apart = refl }
