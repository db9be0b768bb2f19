-- Outs: what becomes of a packet, field by field: set to a value, or kept.
use Rattle.std.specs.Prelude.{ℕ, List, [], ◌∷◌, Option}
use Rattle.std.specs.Option.{unwrap_or}
use Rattle.packet.specs.Packet.{Packet}

abbrev pub Out : Type 0
Out = List (Option ℕ)

-- the packet with the fields that are set
unfoldable pub applied : Out → Packet → Packet
applied [] p = p
applied (v ∷ o) [] = []
applied (v ∷ o) (x ∷ p) = unwrap_or v x ∷ applied o p
