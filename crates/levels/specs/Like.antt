-- Packets that came of two others in the same way.
--   LikeAt x y v w   of x and y came v and w: both are as they were, or both are one value that is neither x nor y
--   Like p r q s     so it is at each field: q came of p as s came of r
--   Agree n p r      the fields of p and r below n are the same
use Rattle.std.specs.Prelude.{◌≡◌, ℕ, ◌<◌, false, length, ◌==◌}
use Rattle.packet.specs.Packet.{Packet, field}

abbrev pub LikeAt : ℕ → ℕ → ℕ → ℕ → Type 0
LikeAt x y v w = ((v == x) ≡ (w == y)) × ((v == x) ≡ false → v ≡ w)

pub record Like (p r q s : Packet) : Type 0 where
  pub eight : (length q ≡ 8) × (length s ≡ 8)
  pub at : (f : ℕ) → LikeAt (field f p) (field f r) (field f q) (field f s)

abbrev pub Agree : ℕ → Packet → Packet → Type 0
Agree n p r = (f : ℕ) → f < n → field f p ≡ field f r
