-- The bytes of a text: its switch, the number of its nodes, the nodes.
use Rattle.std.specs.Prelude.{ℕ, zero, suc, cond, ◌&&◌, List, [], ◌∷◌, ◌++◌, length, ◌==◌, nat_le, nat_lt}
use Rattle.std.specs.List.{flat_map}
use Rattle.octets.specs.Parse.{Got, Read, Bad, and_then, check, byte, word, below, ended, word_bytes}
use Rattle.text.specs.declared.node.Node.{Node}
use Rattle.text.specs.declared.node.Node.TheVariants.{Always, Is, Both, Either, Not, Keep, Put, And, Then}
use Rattle.text.specs.declared.node.Sort.{Sort}
use Rattle.text.specs.declared.node.Sort.TheVariants.{Test, Policy}
use Rattle.text.specs.Nodes.{fitting}

-- Reading. `ns` are the nodes before the one that is read.
abbrev pub field : List ℕ → Got ℕ
field = below 8

abbrev pub operand : Sort → List Node → List ℕ → Got ℕ
operand want ns bs = and_then (word bs) (λ k r. check (fitting want ns k) 3 k r)

-- a field and a value; one operand; two operands
abbrev pub valued : (ℕ → ℕ → Node) → List ℕ → Got Node
valued make bs = and_then (field bs) (λ f r. and_then (word r) (λ x q. Read (make f x) q))

abbrev pub unary : Sort → (ℕ → Node) → List Node → List ℕ → Got Node
unary want make ns bs = and_then (operand want ns bs) (λ a r. Read (make a) r)

abbrev pub binary : Sort → (ℕ → ℕ → Node) → List Node → List ℕ → Got Node
binary want make ns bs = and_then (operand want ns bs) (λ a r. and_then (operand want ns r) (λ b q. Read (make a b) q))

abbrev pub of_kind : List Node → ℕ → List ℕ → Got Node
of_kind ns k bs =
    cond (k == 1) (Read Always bs)
    (cond (k == 2) (valued Is bs)
    (cond (k == 3) (binary Test Both ns bs)
    (cond (k == 4) (binary Test Either ns bs)
    (cond (k == 5) (unary Test Not ns bs)
    (cond (k == 6) (unary Test Keep ns bs)
    (cond (k == 7) (valued Put bs)
    (cond (k == 8) (binary Policy And ns bs)
    (cond (k == 9) (binary Policy Then ns bs)
    (Bad 1)))))))))

abbrev pub node : List Node → List ℕ → Got Node
node ns bs = and_then (byte bs) (of_kind ns)

-- k nodes more
abbrev pub nodes : ℕ → List Node → List ℕ → Got (List Node)
nodes zero ns bs = Read ns bs
nodes (suc k) ns bs = and_then (node ns bs) (λ n r. nodes k (ns ++ n ∷ []) r)

-- the number of the nodes of a text, 1 to 512, and the nodes
abbrev pub listed : List ℕ → Got (List Node)
listed bs = and_then (word bs) (λ k r. and_then (check (nat_le 1 k && nat_le k 512) 2 k r) (λ m q. nodes m [] q))

-- the nodes of a text, with the switch that it is for
pub record Assignment : Type 0 where
  pub switch : ℕ
  pub nodes : List Node

-- a text for one of n switches
abbrev pub text : ℕ → List ℕ → Got Assignment
text n bs =
    and_then (byte bs) (λ i r.
    and_then (check (nat_lt i n) 2 i r) (λ j q.
    and_then (word q) (λ k p.
    and_then (check (nat_le 1 k && nat_le k 512) 2 k p) (λ m o.
    and_then (nodes m [] o) (λ ns t. Read (record { switch = j; nodes = ns }) t)))))

-- a text that stands alone
abbrev pub alone : ℕ → List ℕ → Got Assignment
alone n bs = and_then (text n bs) ended

-- Writing.
abbrev pub valued_bytes : ℕ → ℕ → ℕ → List ℕ
valued_bytes kind f x = kind ∷ (f ∷ word_bytes x)

abbrev pub unary_bytes : ℕ → ℕ → List ℕ
unary_bytes kind a = kind ∷ word_bytes a

abbrev pub binary_bytes : ℕ → ℕ → ℕ → List ℕ
binary_bytes kind a b = kind ∷ (word_bytes a ++ word_bytes b)

abbrev pub node_bytes : Node → List ℕ
node_bytes Always = 1 ∷ []
node_bytes (Is f x) = valued_bytes 2 f x
node_bytes (Both a b) = binary_bytes 3 a b
node_bytes (Either a b) = binary_bytes 4 a b
node_bytes (Not a) = unary_bytes 5 a
node_bytes (Keep a) = unary_bytes 6 a
node_bytes (Put f x) = valued_bytes 7 f x
node_bytes (And a b) = binary_bytes 8 a b
node_bytes (Then a b) = binary_bytes 9 a b

-- the number of the nodes, and the nodes
abbrev pub listed_bytes : List Node → List ℕ
listed_bytes ns = word_bytes (length ns) ++ flat_map node_bytes ns

abbrev pub text_bytes : ℕ → List Node → List ℕ
text_bytes i ns = i ∷ (word_bytes (length ns) ++ flat_map node_bytes ns)
