-- The tables of texts, and on which packet two tables differ.
use Rattle.std.specs.Prelude.{◌≡◌, ℕ, ◌<◌, ◌⊎◌, List, Some, None, Option}
use Rattle.octets.specs.declared.fault.Fault.{Fault}
use Rattle.octets.specs.declared.fault.Fault.TheVariants.{Memory}
use Rattle.octets.specs.Faults.{number}
use Rattle.packet.specs.Packet.{Packet, IsPacket, SameSet, Before}
use Rattle.packet.specs.Policy.{Policy}
use Rattle.packet.specs.Table.{Table, Right, sent}
use Rattle.packet.specs.declared.packets.Packet as code
use Rattle.prescribed.specs.Fit.{fault_of}
use Rattle.table.specs.Words.{Sound, rules_of}

-- the words are a table that is right for the policy
pub record Stands (a : Policy) (ws : List ℕ) : Type 0 where
  pub fits : fault_of a ≡ 0
  pub sound : Sound ws
  pub right : Right a (rules_of ws)

abbrev pub Unfit : Policy → Fault → Type 0
Unfit a f = (f ≡ Memory) ⊎ ((0 < fault_of a) × (number f ≡ fault_of a))

-- the smallest packet of which two tables send different copies
pub record FirstSent (s t : Table) (r : Packet) : Type 0 where
  pub packet : IsPacket r
  pub differ : SameSet (sent s r) (sent t r) → ⊥
  pub before : (p : Packet) → IsPacket p → Before p r → SameSet (sent s p) (sent t p)

abbrev pub Found : Table → Table → Option code.Packet → Type 0
Found s t None = (p : Packet) → IsPacket p → SameSet (sent s p) (sent t p)
Found s t (Some r) = FirstSent s t r.fields
