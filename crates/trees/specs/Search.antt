-- The smallest packet of which two trees give different copies, among those whose first f fields are those of q.
use Rattle.std.specs.Prelude.{◌≡◌, ℕ, ◌<◌, Bool, true, List, length, take, Some, None, Option, slice_index_or}
use mathlib.Core.List.{Memᴰ}
use Rattle.packet.specs.Packet.{Packet, IsPacket, Before}
use Rattle.packet.specs.declared.packets.Packet as code
use Rattle.trees.specs.declared.node.Node.{Node}
use Rattle.trees.specs.declared.node.Node.TheVariants.{Nothing}
use Rattle.trees.specs.Trees.{Tree, copies_by, Alike}
use Rattle.trees.specs.Names.{named_by}

-- they give the same copies of every packet
abbrev pub Everywhere : Tree → Tree → ℕ → Packet → Type 0
Everywhere a b f q = (p : Packet) → IsPacket p → take f p ≡ take f q → Alike a b p

-- they give different copies of r, and the same of every smaller packet
pub record FirstAt (a b : Tree) (f : ℕ) (q r : Packet) : Type 0 where
  pub packet : IsPacket r
  pub starts : take f r ≡ take f q
  pub differ : Alike a b r → ⊥
  pub before : (p : Packet) → IsPacket p → take f p ≡ take f q → Before p r → Alike a b p

abbrev pub Settled : Tree → Tree → ℕ → Packet → Option code.Packet → Type 0
Settled a b f q None = Everywhere a b f q
Settled a b f q (Some r) = FirstAt a b f q r.fields

-- each copy that a gives is one that b gives
abbrev pub Within : Tree → Tree → Packet → Type 0
Within a b p = (c : Packet) → Memᴰ c (copies_by a p) → Memᴰ c (copies_by b p)

-- the value that a node names is marked
abbrev pub Marks : Option ℕ → List Bool → Type 0
Marks None ms = Unit {0}
Marks (Some x) ms = slice_index_or ms x true ≡ true

abbrev pub Marked : ℕ → List Node → List Bool → Type 0
Marked f ns ms = (k : ℕ) → k < length ns → Marks (named_by f (slice_index_or ns k Nothing)) ms
