-- Tables: lists of rules, of which the first whose wants a packet meets decides.
use Rattle.std.specs.Prelude.{ℕ, Bool, true, cond, ◌&&◌, List, [], ◌∷◌, ◌==◌}
use Rattle.packet.specs.Packet.{Packet, IsPacket, field, put, SameSet, once}
use Rattle.packet.specs.Policy.{Policy, copies}

-- a field that must have a value
pub record Want : Type 0 where
  pub at : ℕ
  pub value : ℕ

-- a field that is set to a value
pub record Setting : Type 0 where
  pub at : ℕ
  pub value : ℕ

-- outs: the settings of each copy
pub record Rule : Type 0 where
  pub wants : List Want
  pub outs : List (List Setting)

abbrev pub Table : Type 0
Table = List Rule

abbrev pub meets : Want → Packet → Bool
meets w p = field w.at p == w.value

unfoldable pub meets_all : List Want → Packet → Bool
meets_all [] p = true
meets_all (w ∷ ws) p = meets w p && meets_all ws p

unfoldable pub set_all : List Setting → Packet → Packet
set_all [] p = p
set_all (s ∷ ss) p = set_all ss (put s.at s.value p)

unfoldable pub outputs : List (List Setting) → Packet → List Packet
outputs [] p = []
outputs (o ∷ os) p = set_all o p ∷ outputs os p

-- the outs of the first rule that the packet meets; a packet that meets none has none
unfoldable pub decided : Table → Packet → List (List Setting)
decided [] p = []
decided (r ∷ rs) p = cond (meets_all r.wants p) r.outs (decided rs p)

-- what a switch with this table sends of a packet: each copy once, in the order of the outs
abbrev pub sent : Table → Packet → List Packet
sent t p = once (outputs (decided t p) p)

-- the table gives every packet the copies that the policy gives it
abbrev pub Right : Policy → Table → Type 0
Right a t = (p : Packet) → IsPacket p → SameSet (sent t p) (copies a p)
