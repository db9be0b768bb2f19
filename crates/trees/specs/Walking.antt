-- What is known of two trees when all values below x of the field f were gone through.
use Rattle.std.specs.Prelude.{◌≡◌, ℕ, ◌<◌, Bool, true, false, List, take, slice_index_or}
use Rattle.packet.specs.Packet.{Packet, IsPacket, field}
use Rattle.trees.specs.Trees.{Tree, Alike}

-- whether a value that is not marked stood for the others
abbrev pub Stood : List Bool → ℕ → Bool → Type 0
Stood ms x true = (z : ℕ) × (z < x) × (slice_index_or ms z true ≡ false)
Stood ms x false = Unit {0}

pub record Walked (a b : Tree) (f : ℕ) (q : Packet) (ms : List Bool) (x : ℕ) (stood : Bool) : Type 0 where
  pub same : (p : Packet) → IsPacket p → take f p ≡ take f q → field f p < x → Alike a b p
  pub like : Stood ms x stood
