-- Which nodes may follow which: every operand is an earlier node of the right sort, and every field is 0 to 7.
use Rattle.std.specs.Prelude.{ℕ, zero, suc, Bool, true, false, ◌&&◌, List, [], ◌∷◌, ◌++◌, nat_le}
use Rattle.text.specs.declared.node.Node.{Node}
use Rattle.text.specs.declared.node.Node.TheVariants.{Always, Is, Both, Either, Not, Keep, Put, And, Then}
use Rattle.text.specs.declared.node.Sort.{Sort}
use Rattle.text.specs.declared.node.Sort.TheVariants.{Test, Policy}

abbrev pub sort_of : Node → Sort
sort_of Always = Test
sort_of (Is f x) = Test
sort_of (Both a b) = Test
sort_of (Either a b) = Test
sort_of (Not a) = Test
sort_of (Keep a) = Policy
sort_of (Put f x) = Policy
sort_of (And a b) = Policy
sort_of (Then a b) = Policy

abbrev pub same_sort : Sort → Sort → Bool
same_sort Test Test = true
same_sort Test Policy = false
same_sort Policy Test = false
same_sort Policy Policy = true

-- node k is there, and is of the sort that is wanted
abbrev pub fitting : Sort → List Node → ℕ → Bool
fitting want [] k = false
fitting want (n ∷ ns) zero = same_sort (sort_of n) want
fitting want (n ∷ ns) (suc k) = fitting want ns k

-- a node may follow the nodes ns
abbrev pub fits : List Node → Node → Bool
fits ns Always = true
fits ns (Is f x) = nat_le f 7
fits ns (Both a b) = fitting Test ns a && fitting Test ns b
fits ns (Either a b) = fitting Test ns a && fitting Test ns b
fits ns (Not a) = fitting Test ns a
fits ns (Keep a) = fitting Test ns a
fits ns (Put f x) = nat_le f 7
fits ns (And a b) = fitting Policy ns a && fitting Policy ns b
fits ns (Then a b) = fitting Policy ns a && fitting Policy ns b

-- nodes that follow those of `done`, each of which may follow those before it
unfoldable pub sound : List Node → List Node → Bool
sound done [] = true
sound done (n ∷ ns) = fits done n && sound (done ++ n ∷ []) ns
