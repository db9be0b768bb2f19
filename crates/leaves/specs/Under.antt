-- Which nodes lie under the last one of a text: a row has a mark for each node.
--   operands n          the nodes that n is built from
--   marking more row    the row with marks at the nodes `more` too
--   test_of n, name_of n  the pair that n itself tests, and the pair that it tests or puts
--   marked own row ns   what the marked nodes have, where a node n has `own n`
--   Under ns row        the marked nodes have just the pairs that the text tests, and just those that it tests or puts
use Rattle.std.specs.Prelude.{◌≡◌, ℕ, Bool, true, cond, List, [], ◌∷◌, ◌++◌, slice_set}
use Rattle.packet.specs.Table.{Want}
use Rattle.text.specs.declared.node.Node.{Node}
use Rattle.text.specs.declared.node.Node.TheVariants.{Always, Is, Both, Either, Not, Keep, Put, And, Then}
use Rattle.text.specs.Trees.{meaning}
use Rattle.prescribed.specs.Table.{tested_in, put_in, names}

abbrev pub operands : Node → List ℕ
operands Always = []
operands (Is f x) = []
operands (Both a b) = a ∷ (b ∷ [])
operands (Either a b) = a ∷ (b ∷ [])
operands (Not a) = a ∷ []
operands (Keep a) = a ∷ []
operands (Put f x) = []
operands (And a b) = a ∷ (b ∷ [])
operands (Then a b) = a ∷ (b ∷ [])

abbrev pub marking : List ℕ → List Bool → List Bool
marking [] row = row
marking (a ∷ more) row = marking more (slice_set row a true)

-- a pair alone
abbrev pub one : ℕ → ℕ → List Want
one f x = record { at = f; value = x } ∷ []

abbrev pub test_of : Node → List Want
test_of Always = []
test_of (Is f x) = one f x
test_of (Both a b) = []
test_of (Either a b) = []
test_of (Not a) = []
test_of (Keep a) = []
test_of (Put f x) = []
test_of (And a b) = []
test_of (Then a b) = []

abbrev pub name_of : Node → List Want
name_of Always = []
name_of (Is f x) = one f x
name_of (Both a b) = []
name_of (Either a b) = []
name_of (Not a) = []
name_of (Keep a) = []
name_of (Put f x) = one f x
name_of (And a b) = []
name_of (Then a b) = []

unfoldable pub marked : (Node → List Want) → List Bool → List Node → List Want
marked own [] ns = []
marked own (b ∷ bs) [] = []
marked own (b ∷ bs) (n ∷ ns) = cond b (own n) [] ++ marked own bs ns

pub record Under (ns : List Node) (row : List Bool) : Type 0 where
  pub tested : (f x : ℕ) → names f x (marked test_of row ns) ≡ names f x (tested_in (meaning ns))
  pub named : (f x : ℕ) → names f x (marked name_of row ns) ≡ names f x (tested_in (meaning ns) ++ put_in (meaning ns))
