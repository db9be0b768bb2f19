-- Packets: a packet is the list of its eight fields, each of 16 bits. Field 0 is the port that it is at.
use Rattle.std.specs.Prelude.{◌≡◌, ℕ, ◌<◌, Bool, false, cond, ◌||◌, List, [], ◌∷◌, length, take, slice_index, slice_set}
use mathlib.Core.List.{Memᴰ}
use Rattle.std.specs.Str.{bytes_eq}

abbrev pub Packet : Type 0
Packet = List ℕ

-- what a packet is
pub record IsPacket (p : Packet) : Type 0 where
  pub eight : length p ≡ 8
  pub small : (f : ℕ) → slice_index p f < 65536

-- a field above 7 is not there: its value is 0, and setting it changes nothing
abbrev pub field : ℕ → Packet → ℕ
field f p = slice_index p f

abbrev pub put : ℕ → ℕ → Packet → Packet
put f x p = slice_set p f x

-- p comes before q: at the first field in which they differ p has the smaller value
pub record Before (p q : Packet) : Type 0 where
  pub at : ℕ
  pub same : take at p ≡ take at q
  pub less : field at p < field at q

-- the same packets, however often and in whatever order
abbrev pub SameSet : List Packet → List Packet → Type 0
SameSet ps qs = (p : Packet) → (Memᴰ p ps → Memᴰ p qs) × (Memᴰ p qs → Memᴰ p ps)

abbrev pub same_packet : Packet → Packet → Bool
same_packet p q = bytes_eq p q

-- each packet once, at its first place
unfoldable pub others : Packet → List Packet → List Packet
others p [] = []
others p (q ∷ qs) = cond (same_packet p q) (others p qs) (q ∷ others p qs)

unfoldable pub once : List Packet → List Packet
once [] = []
once (p ∷ ps) = p ∷ others p (once ps)

-- no packet twice
unfoldable pub is_in : Packet → List Packet → Bool
is_in p [] = false
is_in p (q ∷ qs) = same_packet p q || is_in p qs

abbrev pub Distinct : List Packet → Type 0
Distinct [] = Unit {0}
Distinct (p ∷ ps) = (is_in p ps ≡ false) × Distinct ps
