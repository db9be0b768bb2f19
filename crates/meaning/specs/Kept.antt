-- What the memo keeps for the nodes ns of a text.
--   Stands ns k n       node k is n: it names only earlier nodes, and stands for what they stand for
--   Says ns k p row     the row tells of the first k nodes whether the packet p passes them
--   RowRight ns row     the row tells it of all nodes
--   EntryRight ns k e   the entry is what node k gives of its packet
use Rattle.std.specs.Prelude.{◌≡◌, ℕ, ◌<◌, Bool, false, List, length, get_or, vec_items, slice_index_or}
use Rattle.std.specs.List.{All}
use Rattle.packet.specs.Packet.{Packet, once}
use Rattle.packet.specs.Policy.{always, isnt, holds, copies, overfull}
use Rattle.packet.specs.Copies.{listing}
use Rattle.text.specs.declared.node.Node.{Node}
use Rattle.text.specs.declared.node.Node.TheVariants.{Always, Is, Both, Either, Not, Keep, Put, And, Then}
use Rattle.text.specs.Trees.{a_test, trees, tree_of, test_at, policy_at}
use Rattle.meaning.specs.declared.memo.Row.{Row}
use Rattle.meaning.specs.declared.memo.Entry.{Entry}
use Rattle.meaning.specs.declared.memo.Kept.{Kept}

-- the operands of a node are below k
abbrev pub Earlier : ℕ → Node → Type 0
Earlier k Always = Unit {0}
Earlier k (Is f x) = Unit {0}
Earlier k (Both a b) = (a < k) × (b < k)
Earlier k (Either a b) = (a < k) × (b < k)
Earlier k (Not a) = a < k
Earlier k (Keep a) = a < k
Earlier k (Put f x) = Unit {0}
Earlier k (And a b) = (a < k) × (b < k)
Earlier k (Then a b) = (a < k) × (b < k)

pub record Stands (ns : List Node) (k : ℕ) (n : Node) : Type 0 where
  pub tree : get_or (trees ns) k (a_test (isnt always)) ≡ tree_of (trees ns) n
  pub earlier : Earlier k n

abbrev pub Says : List Node → ℕ → Packet → List Bool → Type 0
Says ns k p row = (a : ℕ) → a < k → slice_index_or row a false ≡ holds (test_at (trees ns) a) p

abbrev pub RowRight : List Node → Row → Type 0
RowRight ns row = Says ns (length ns) row.packet.fields row.tests

abbrev pub EntryRight : List Node → ℕ → Entry → Type 0
EntryRight ns k e = (overfull (policy_at (trees ns) k) e.packet.fields ≡ false) × (listing e.copies ≡ once (copies (policy_at (trees ns) k) e.packet.fields))

-- the entries of each node
abbrev pub AllKept : List Node → List Kept → Type 0
AllKept ns kept = (k : ℕ) (d : Kept) → k < length kept → All (EntryRight ns k) (vec_items (slice_index_or kept k d).entries)
