-- Trees: sets of outs, chosen by tests of the fields.
--   copies_by t p   the copies that a tree gives of a packet; they count as a set
--   Alike t u p    two trees give the packet the same copies
use Rattle.std.specs.Prelude.{ℕ, cond, List, [], ◌∷◌, ◌==◌}
use Rattle.packet.specs.Packet.{Packet, field, SameSet}
use Rattle.trees.specs.Outs.{Out, applied}

-- no outs; one out more; one tree where a field has a value, and another where it has not
pub data Tree : Type 0 where
  none : Tree
  also : Out → Tree → Tree
  test : (f x : ℕ) → Tree → Tree → Tree

unfoldable pub copies_by : Tree → Packet → List Packet
copies_by none p = []
copies_by (also o t) p = applied o p ∷ copies_by t p
copies_by (test f x y n) p = cond (field f p == x) (copies_by y p) (copies_by n p)

abbrev pub Alike : Tree → Tree → Packet → Type 0
Alike t u p = SameSet (copies_by t p) (copies_by u p)
