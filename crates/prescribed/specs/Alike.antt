-- Packets that meet the same tests are treated alike.
use Rattle.std.specs.Prelude.{◌≡◌, ℕ, ◌⊎◌, List, length}
use mathlib.Core.List.{Memᴰ}
use Rattle.std.specs.List.{AllZip}
use Rattle.packet.specs.Packet.{Packet, field}
use Rattle.packet.specs.Policy.{Policy, copies}
use Rattle.packet.specs.Table.{Want, meets}
use Rattle.prescribed.specs.Table.{tested_in, put_in}

-- of each pair, both packets have the value at the field, or neither has
abbrev pub SameTests : List Want → Packet → Packet → Type 0
SameTests ws p r = (w : Want) → Memᴰ w ws → meets w p ≡ meets w r

-- values x and y of the field f that came of p and of r: as they were, or one value that was put
abbrev pub AlikeAt : List Want → Packet → Packet → ℕ → ℕ → ℕ → Type 0
AlikeAt ws p r f x y = ((x ≡ field f p) × (y ≡ field f r)) ⊎ ((x ≡ y) × Memᴰ (record { at = f; value = x }) ws)

-- q came of p as s came of r
pub record Alike (ws : List Want) (p r q s : Packet) : Type 0 where
  pub eight : (length q ≡ 8) × (length s ≡ 8)
  pub at : (f : ℕ) → AlikeAt ws p r f (field f q) (field f s)

-- the copies of two packets that meet the same tests came alike, one by one
abbrev pub TreatedAlike : Type 0
TreatedAlike =
    (a : Policy) (p r : Packet) → length p ≡ 8 → length r ≡ 8 → SameTests (tested_in a) p r →
    AllZip (Alike (put_in a) p r) (copies a p) (copies a r)
