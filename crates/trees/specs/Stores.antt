-- What a store answers.
--   nodes_of s        the nodes of a store
--   Stands ns k t    node k stands for the tree t
use Rattle.std.specs.Prelude.{◌≡◌, ℕ, ◌<◌, List, ◌∷◌, length}
use Rattle.trees.specs.declared.node.Node.{Node}
use Rattle.trees.specs.declared.store.Trees.{Trees}
use Rattle.packet.specs.Packet.{Packet, SameSet, field}
use Rattle.packet.specs.Table.{Table, sent}
use Rattle.trees.specs.Outs.{Out, applied}
use Rattle.trees.specs.Trees.{Tree, test, copies_by, Alike}
use Rattle.trees.specs.Nodes.{tree_at}

abbrev pub nodes_of : Trees → List Node
nodes_of s = s.nodes.keys

pub record Stands (ns : List Node) (k : ℕ) (t : Tree) : Type 0 where
  pub there : k < length ns
  pub tree : tree_at ns k ≡ t

-- node k has the copies of t and that of one out more
pub record Inserted (ns ms : List Node) (o : Out) (t k : ℕ) : Type 0 where
  pub there : k < length ms
  pub like : (p : Packet) → SameSet (copies_by (tree_at ms k) p) (applied o p ∷ copies_by (tree_at ns t) p)

-- node k does what t does to packets in which the field f has the value x
pub record Given (ns ms : List Node) (f x t k : ℕ) : Type 0 where
  pub there : k < length ms
  pub like : (p : Packet) → length p ≡ 8 → field f p ≡ x → Alike (tree_at ms k) (tree_at ns t) p

-- node k does what m does to packets in which the field f has the value x, and else what u does
pub record Tested (ns ms : List Node) (f x m u k : ℕ) : Type 0 where
  pub there : k < length ms
  pub like : (p : Packet) → length p ≡ 8 → SameSet (copies_by (tree_at ms k) p) (copies_by (test f x (tree_at ns m) (tree_at ns u)) p)

-- node k does what t does
pub record Like (ns ms : List Node) (t k : ℕ) : Type 0 where
  pub there : k < length ms
  pub like : (p : Packet) → length p ≡ 8 → Alike (tree_at ms k) (tree_at ns t) p

-- node k gives each packet these copies
pub record Gives (ns : List Node) (k : ℕ) (copies : Packet → List Packet) : Type 0 where
  pub there : k < length ns
  pub gives : (p : Packet) → length p ≡ 8 → copies_by (tree_at ns k) p ≡ copies p

-- node k gives each packet the copies that a table sends
pub record Sends (ns : List Node) (t : Table) (k : ℕ) : Type 0 where
  pub there : k < length ns
  pub sends : (p : Packet) → length p ≡ 8 → SameSet (copies_by (tree_at ns k) p) (sent t p)
