-- Writing nodes in the notation: a line to each node, with all its operands. What is written reads as the same nodes.
use Rattle.std.specs.Prelude.{◌≡◌, ℕ, ◌≤◌, true, List, [], ◌∷◌, ◌++◌, length, codes, decimal}
use Rattle.std.specs.List.{AllByRecursion}
use Rattle.text.specs.declared.node.Node.{Node}
use Rattle.text.specs.declared.node.Node.TheVariants as node
use Rattle.text.specs.Nodes.{sound}
use Rattle.notation.specs.declared.kind.Kind.{Kind}
use Rattle.notation.specs.declared.kind.Kind.TheVariants.{Always, Is, Both, Either, Not, Keep, Put, And, Then}
use Rattle.notation.specs.Kinds.{word_of}
use Rattle.notation.specs.Notation.{Whole, text_in}

abbrev pub kind_in : Node → Kind
kind_in node.Always = Always
kind_in (node.Is f x) = Is
kind_in (node.Both a b) = Both
kind_in (node.Either a b) = Either
kind_in (node.Not a) = Not
kind_in (node.Keep a) = Keep
kind_in (node.Put f x) = Put
kind_in (node.And a b) = And
kind_in (node.Then a b) = Then

abbrev pub numbers_in : Node → List ℕ
numbers_in node.Always = []
numbers_in (node.Is f x) = f ∷ (x ∷ [])
numbers_in (node.Both a b) = a ∷ (b ∷ [])
numbers_in (node.Either a b) = a ∷ (b ∷ [])
numbers_in (node.Not a) = a ∷ []
numbers_in (node.Keep a) = a ∷ []
numbers_in (node.Put f x) = f ∷ (x ∷ [])
numbers_in (node.And a b) = a ∷ (b ∷ [])
numbers_in (node.Then a b) = a ∷ (b ∷ [])

-- numbers, each behind a space
unfoldable pub spaced : List ℕ → List ℕ
spaced [] = []
spaced (n ∷ ns) = 32 ∷ (decimal n ++ spaced ns)

unfoldable pub written_nodes : List Node → List ℕ
written_nodes [] = []
written_nodes (n ∷ ns) = (word_of (kind_in n) ++ spaced (numbers_in n)) ++ (10 ∷ written_nodes ns)

-- a node's value has 16 bits
abbrev pub Short : Node → Type 0
Short node.Always = Unit {0}
Short (node.Is f x) = x ≤ 65535
Short (node.Both a b) = Unit {0}
Short (node.Either a b) = Unit {0}
Short (node.Not a) = Unit {0}
Short (node.Keep a) = Unit {0}
Short (node.Put f x) = x ≤ 65535
Short (node.And a b) = Unit {0}
Short (node.Then a b) = Unit {0}

-- the nodes of every text are read back
abbrev pub ReadsBack : Type 0
ReadsBack = (ns : List Node) → sound [] ns ≡ true → AllByRecursion Short ns → 1 ≤ length ns → length ns ≤ 512 → text_in [] (written_nodes ns) ≡ Whole ns

-- operands that are left out are the latest nodes that no node has used, in the order in which they stand
abbrev pub LeftOut : Type 0
LeftOut =
    text_in [] (codes "is 1 5; keep; put 0 2; then # last")
    ≡ Whole (node.Is 1 5 ∷ (node.Keep 0 ∷ (node.Put 0 2 ∷ (node.Then 1 2 ∷ []))))
