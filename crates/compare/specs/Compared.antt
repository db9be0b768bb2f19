-- What is answered of the policies of two texts.
use Rattle.std.specs.Prelude.{◌≡◌, ◌<◌, ◌⊎◌, List, vec_items, Some, None, Option}
use Rattle.octets.specs.declared.fault.Fault.{Fault}
use Rattle.octets.specs.declared.fault.Fault.TheVariants.{Memory}
use Rattle.octets.specs.Faults.{number}
use Rattle.packet.specs.Packet.{Packet, IsPacket, SameSet, Before}
use Rattle.packet.specs.Policy.{Policy, copies}
use Rattle.packet.specs.Listed.{fields_of}
use Rattle.prescribed.specs.Fit.{fault_of}
use Rattle.compare.specs.declared.answer.Difference.{Difference}
use Rattle.compare.specs.Sets.{Listed}

-- every packet has the same copies
abbrev pub Everywhere : Policy → Policy → Type 0
Everywhere a b = (p : Packet) → IsPacket p → SameSet (copies a p) (copies b p)

-- the copies of r differ, those of every smaller packet don't; ps and qs are the copies of r
pub record Smallest (a b : Policy) (r : Packet) (ps qs : List Packet) : Type 0 where
  pub packet : IsPacket r
  pub differ : SameSet (copies a r) (copies b r) → ⊥
  pub before : (p : Packet) → IsPacket p → Before p r → SameSet (copies a p) (copies b p)
  pub first : Listed ps (copies a r)
  pub second : Listed qs (copies b r)

abbrev pub Answers : Policy → Policy → Option Difference → Type 0
Answers a b None = (fault_of a ≡ 0) × (fault_of b ≡ 0) × Everywhere a b
Answers a b (Some d) =
    (fault_of a ≡ 0) × (fault_of b ≡ 0) × Smallest a b d.packet.fields (fields_of (vec_items d.first)) (fields_of (vec_items d.second))

-- the first text's fault counts before the second's
abbrev pub NotCompared : Policy → Policy → Fault → Type 0
NotCompared a b f = (f ≡ Memory) ⊎ (((0 < fault_of a) × (number f ≡ fault_of a)) ⊎ ((fault_of a ≡ 0) × (0 < fault_of b) × (number f ≡ fault_of b)))
