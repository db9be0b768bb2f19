-- Policies: what a switch is to do with a packet, as trees of tests and policies.
use Rattle.std.specs.Prelude.{ℕ, ◌<◌, Bool, true, false, cond, not, ◌&&◌, ◌||◌, List, [], ◌∷◌, ◌++◌, length, ◌==◌, nat_lt}
use Rattle.packet.specs.Packet.{Packet, field, put, once}

pub data Test : Type 0 where
  always : Test
  is : (f x : ℕ) → Test
  both : Test → Test → Test
  either : Test → Test → Test
  isnt : Test → Test

unfoldable pub holds : Test → Packet → Bool
holds always p = true
holds (is f x) p = field f p == x
holds (both a b) p = holds a p && holds b p
holds (either a b) p = holds a p || holds b p
holds (isnt a) p = not (holds a p)

-- keep: a packet that passes the test goes on, and no other does. puts: it goes on with that field set.
-- and: what either gives. then: what the first gives goes through the second
pub data Policy : Type 0 where
  keep : Test → Policy
  puts : (f x : ℕ) → Policy
  and : Policy → Policy → Policy
  then : Policy → Policy → Policy

unfoldable pub each : (Packet → List Packet) → List Packet → List Packet
each f [] = []
each f (p ∷ ps) = f p ++ each f ps

-- the copies that a policy gives of a packet; they count as a set
unfoldable pub copies : Policy → Packet → List Packet
copies (keep a) p = cond (holds a p) (p ∷ []) []
copies (puts f x) p = put f x p ∷ []
copies (and a b) p = copies a p ++ copies b p
copies (then a b) p = each (copies b) (copies a p)

-- some policy under this one, itself included, is given a packet of which it has more than 16 copies
unfoldable pub some : (Packet → Bool) → List Packet → Bool
some f [] = false
some f (p ∷ ps) = f p || some f ps

unfoldable pub overfull : Policy → Packet → Bool
overfull (keep a) p = false
overfull (puts f x) p = false
overfull (and a b) p = nat_lt 16 (length (once (copies (and a b) p))) || (overfull a p || overfull b p)
overfull (then a b) p = nat_lt 16 (length (once (copies (then a b) p))) || (overfull a p || some (overfull b) (copies a p))

-- every value that it puts is one that a field can have, so that copies of packets are packets
abbrev pub InRange : Policy → Type 0
InRange (keep a) = Unit {0}
InRange (puts f x) = x < 65536
InRange (and a b) = InRange a × InRange b
InRange (then a b) = InRange a × InRange b
