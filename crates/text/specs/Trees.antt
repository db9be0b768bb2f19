-- What the nodes of a text stand for: the trees of tests and policies that they share.
use Rattle.std.specs.Prelude.{ℕ, ◌-◌, List, [], ◌∷◌, ◌++◌, length, slice_index_or}
use Rattle.packet.specs.Policy.{Test, always, is, both, either, isnt, Policy, keep, puts, and, then}
use Rattle.text.specs.declared.node.Node.{Node}
use Rattle.text.specs.declared.node.Node.TheVariants.{Always, Is, Both, Either, Not, Keep, Put, And, Then}

pub data Tree : Type 0 where
  a_test : Test → Tree
  a_policy : Policy → Tree

-- a test stands for keeping it where a policy is wanted; where a test is wanted there is always one
abbrev pub as_policy : Tree → Policy
as_policy (a_test t) = keep t
as_policy (a_policy a) = a

abbrev pub as_test : Tree → Test
as_test (a_test t) = t
as_test (a_policy a) = isnt always

abbrev pub test_at : List Tree → ℕ → Test
test_at trees k = as_test (slice_index_or trees k (a_test (isnt always)))

abbrev pub policy_at : List Tree → ℕ → Policy
policy_at trees k = as_policy (slice_index_or trees k (a_test (isnt always)))

-- what a node stands for, where `done` is what the earlier ones stand for
unfoldable pub tree_of : List Tree → Node → Tree
tree_of done Always = a_test always
tree_of done (Is f x) = a_test (is f x)
tree_of done (Both a b) = a_test (both (test_at done a) (test_at done b))
tree_of done (Either a b) = a_test (either (test_at done a) (test_at done b))
tree_of done (Not a) = a_test (isnt (test_at done a))
tree_of done (Keep a) = a_policy (keep (test_at done a))
tree_of done (Put f x) = a_policy (puts f x)
tree_of done (And a b) = a_policy (and (policy_at done a) (policy_at done b))
tree_of done (Then a b) = a_policy (then (policy_at done a) (policy_at done b))

unfoldable pub build : List Tree → List Node → List Tree
build done [] = done
build done (n ∷ ns) = build (done ++ tree_of done n ∷ []) ns

abbrev pub trees : List Node → List Tree
trees ns = build [] ns

-- what a text means: its last node
abbrev pub meaning : List Node → Policy
meaning ns = policy_at (trees ns) (length ns - 1)
