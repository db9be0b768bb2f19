-- Sets of packets in rising order.
use Rattle.std.specs.Prelude.{◌≡◌, List, [], ◌∷◌, length}
use mathlib.Core.List.{Memᴰ}
use Rattle.packet.specs.Packet.{Packet, SameSet, Before}

-- each comes before the next
unfoldable pub Rising : List Packet → Type 0
Rising [] = Unit {0}
Rising (p ∷ []) = Unit {0}
Rising (p ∷ (q ∷ ps)) = Before p q × Rising (q ∷ ps)

-- ps is the set qs, each packet once and smaller ones first
pub record Listed (ps qs : List Packet) : Type 0 where
  pub same : SameSet ps qs
  pub rising : Rising ps

-- packets of eight fields
abbrev pub Eight : List Packet → Type 0
Eight ps = (p : Packet) → Memᴰ p ps → length p ≡ 8
