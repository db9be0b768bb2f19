-- The notation of a text: from bytes to nodes, or to the number of the first fault and its line.
use Rattle.std.specs.Prelude.{ℕ, ◌+◌, false, cond, List, [], ◌∷◌, length, replicate, Some, None, Option, nat_lt}
use Rattle.text.specs.declared.node.Node.{Node}
use Rattle.text.specs.declared.node.Node.TheVariants as node
use Rattle.text.specs.declared.node.Sort.TheVariants.{Test, Policy}
use Rattle.notation.specs.declared.kind.Kind.{Kind}
use Rattle.notation.specs.declared.kind.Kind.TheVariants.{Always, Is, Both, Either, Not, Keep, Put, And, Then}
use Rattle.notation.specs.declared.marks.Mark.TheVariants.{Newline, Semicolon, Hash}
use Rattle.notation.specs.Kinds.{kind_of}
use Rattle.notation.specs.Marks.{before, parts}
use Rattle.notation.specs.Words.{Word, words_of}
use Rattle.notation.specs.Reading.{Got, Read, Bad, and_then, up_to, ended}
use Rattle.notation.specs.Operands.{Sofar, one, two, added}

-- a field, 0 to 7, and a value
unfoldable pub setting : List Word → Got (ℕ × ℕ)
setting ws = and_then (up_to 7 2 ws) (λ f r. and_then (up_to 65535 2 r) (λ x q. Read (f, x) q))

-- what was read makes a node
abbrev pub from : {X : Type 0} → (X → Node) → Got X → Got Node
from make g = and_then g (λ x r. Read (make x) r)

-- the words behind the first one, from left to right
abbrev pub of_kind : Kind → Sofar → List Word → Got Node
of_kind Always s ws = Read node.Always ws
of_kind Is s ws = from (λ p. node.Is p.0 p.1) (setting ws)
of_kind Both s ws = from (λ p. node.Both p.0 p.1) (two Test s ws)
of_kind Either s ws = from (λ p. node.Either p.0 p.1) (two Test s ws)
of_kind Not s ws = from node.Not (one Test s ws)
of_kind Keep s ws = from node.Keep (one Test s ws)
of_kind Put s ws = from (λ p. node.Put p.0 p.1) (setting ws)
of_kind And s ws = from (λ p. node.And p.0 p.1) (two Policy s ws)
of_kind Then s ws = from (λ p. node.Then p.0 p.1) (two Policy s ws)

-- one node more, of a kind that is known: a 513th is 2, whatever its other words
abbrev pub one_more : Sofar → Option Kind → List Word → Got Sofar
one_more s None ws = Bad 1
one_more s (Some k) ws = cond (nat_lt (length s.nodes) 512) (and_then (and_then (of_kind k s ws) ended) (λ n r. Read (added s n) r)) (Bad 2)

-- the words between two marks: no word is no node
abbrev pub node_in : Sofar → List Word → Got Sofar
node_in s [] = Read s []
node_in s (w ∷ ws) = one_more s (kind_of w) ws

unfoldable pub nodes_in : Sofar → List (List ℕ) → Got Sofar
nodes_in s [] = Read s []
nodes_in s (p ∷ ps) = and_then (node_in s (words_of p)) (λ t r. nodes_in t ps)

-- a line up to its comment, with semicolons between nodes
abbrev pub line_in : Sofar → List ℕ → Got Sofar
line_in s bs = nodes_in s (parts Semicolon (before Hash bs))

-- all the nodes, or a fault's number and the line where it stands, if it stands in one
pub data Outcome : Type 0 where
  Whole : List Node → Outcome
  Refused : ℕ → Option ℕ → Outcome

abbrev pub at_line : ℕ → Got Sofar → (Sofar → Outcome) → Outcome
at_line line (Read s ws) f = f s
at_line line (Bad n) f = Refused n (Some line)

-- at the end there must be a node
abbrev pub finished : List Node → Outcome
finished [] = Refused 2 None
finished (n ∷ ns) = Whole (n ∷ ns)

-- lines behind the first k
unfoldable pub lines_in : ℕ → Sofar → List (List ℕ) → Outcome
lines_in k s [] = finished s.nodes
lines_in k s (l ∷ ls) = at_line (k + 1) (line_in s l) (λ t. lines_in (k + 1) t ls)

-- a text behind the nodes ns, none of which is used yet
abbrev pub text_in : List Node → List ℕ → Outcome
text_in ns bs = lines_in 0 (record { nodes = ns; used = replicate 512 false }) (parts Newline bs)
