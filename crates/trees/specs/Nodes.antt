-- The nodes of a store, and the trees that they stand for. Each is built from earlier ones.
--   tree_at ns k   the tree of node k; where there is none, a tree without outs
--   Kept ns ms    every tree that was there is still there
use Rattle.std.specs.Prelude.{◌≡◌, ℕ, ◌+◌, ◌<◌, ◌≤◌, Bool, true, ◌&&◌, List, [], ◌∷◌, ◌++◌, length, nat_lt, slice_index_or}
use Rattle.trees.specs.declared.node.Node.{Node}
use Rattle.trees.specs.declared.node.Node.TheVariants.{Nothing, Also, Test}
use Rattle.trees.specs.Trees.{Tree, none, also, test}

-- what a node stands for, where `done` is what the earlier ones stand for
unfoldable pub tree_of : List Tree → Node → Tree
tree_of done Nothing = none
tree_of done (Also o rest) = also o.sets (slice_index_or done rest none)
tree_of done (Test f x met unmet) = test f x (slice_index_or done met none) (slice_index_or done unmet none)

unfoldable pub build : List Tree → List Node → List Tree
build done [] = done
build done (n ∷ ns) = build (done ++ tree_of done n ∷ []) ns

abbrev pub trees : List Node → List Tree
trees ns = build [] ns

abbrev pub tree_at : List Node → ℕ → Tree
tree_at ns k = slice_index_or (trees ns) k none

-- node k is built from earlier ones
abbrev pub is_over : ℕ → Node → Bool
is_over k Nothing = true
is_over k (Also o rest) = nat_lt rest k
is_over k (Test f x met unmet) = nat_lt met k && nat_lt unmet k

-- so are all from k on
unfoldable pub ordered : ℕ → List Node → Bool
ordered k [] = true
ordered k (n ∷ ns) = is_over k n && ordered (k + 1) ns

pub record Kept (ns ms : List Node) : Type 0 where
  pub longer : length ns ≤ length ms
  pub same : (k : ℕ) → k < length ns → tree_at ms k ≡ tree_at ns k
