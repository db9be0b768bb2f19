-- The nodes so far, which of them a node has used, and the operands of the next one.
use Rattle.std.specs.Prelude.{ℕ, zero, suc, Bool, true, false, cond, List, [], ◌∷◌, ◌++◌, length, Some, None, Option, slice_index_or, slice_set}
use Rattle.text.specs.declared.node.Node.{Node}
use Rattle.text.specs.declared.node.Node.TheVariants.{Always, Is, Both, Either, Not, Keep, Put, And, Then}
use Rattle.text.specs.declared.node.Sort.{Sort}
use Rattle.text.specs.Nodes.{fitting}
use Rattle.notation.specs.Words.{Word, some}
use Rattle.notation.specs.Reading.{Got, Read, Bad, and_then, check, numeral}

-- `used` has a flag for each of the 512 nodes that a text may have
pub record Sofar : Type 0 where
  pub nodes : List Node
  pub used : List Bool

-- the latest of the first n nodes that no node has used
unfoldable pub latest : List Bool → ℕ → Option ℕ
latest used zero = None
latest used (suc n) = cond (slice_index_or used n false) (latest used n) (Some n)

-- an operand that is written: a number, and an earlier node of the right sort
abbrev pub written : Sort → Sofar → List Word → Got ℕ
written want s ws = and_then (numeral ws) (λ k r. check (fitting want s.nodes k) 3 k r)

-- an operand that is left out: the latest one before node n that no node has used, of the right sort
abbrev pub or_operand : Sort → Sofar → Option ℕ → List Word → Got ℕ
or_operand want s None ws = Bad 3
or_operand want s (Some k) ws = check (fitting want s.nodes k) 3 k ws

abbrev pub left_out : Sort → Sofar → ℕ → List Word → Got ℕ
left_out want s n ws = or_operand want s (latest s.used n) ws

-- where no word follows, all the operands are left out
unfoldable pub one : Sort → Sofar → List Word → Got ℕ
one want s ws = cond (some ws) (written want s ws) (left_out want s (length s.nodes) ws)

abbrev pub two_written : Sort → Sofar → List Word → Got (ℕ × ℕ)
two_written want s ws = and_then (written want s ws) (λ a r. and_then (written want s r) (λ b q. Read (a, b) q))

-- they are found from the last one back
abbrev pub two_left_out : Sort → Sofar → List Word → Got (ℕ × ℕ)
two_left_out want s ws = and_then (left_out want s (length s.nodes) ws) (λ b r. and_then (left_out want s b r) (λ a q. Read (a, b) q))

unfoldable pub two : Sort → Sofar → List Word → Got (ℕ × ℕ)
two want s ws = cond (some ws) (two_written want s ws) (two_left_out want s ws)

-- the flags when a node was added: its operands are used
abbrev pub marked : Node → List Bool → List Bool
marked Always used = used
marked (Is f x) used = used
marked (Both a b) used = slice_set (slice_set used a true) b true
marked (Either a b) used = slice_set (slice_set used a true) b true
marked (Not a) used = slice_set used a true
marked (Keep a) used = slice_set used a true
marked (Put f x) used = used
marked (And a b) used = slice_set (slice_set used a true) b true
marked (Then a b) used = slice_set (slice_set used a true) b true

abbrev pub added : Sofar → Node → Sofar
added s n = record { nodes = s.nodes ++ n ∷ []; used = marked n s.used }
