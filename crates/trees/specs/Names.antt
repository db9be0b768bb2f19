-- The values that a tree names of a field: in tests, and in outs that set it.
use Rattle.std.specs.Prelude.{◌≡◌, ℕ, cond, Some, None, Option, ◌==◌, ◌≢◌, slice_index_or}
use Rattle.trees.specs.Trees.{Tree, none, also, test}
use Rattle.trees.specs.declared.node.Node.{Node}
use Rattle.trees.specs.declared.node.Node.TheVariants.{Nothing, Also, Test}

abbrev pub named_by : ℕ → Node → Option ℕ
named_by f Nothing = None
named_by f (Also o rest) = slice_index_or o.sets f None
named_by f (Test g x met unmet) = cond (g == f) (Some x) None

-- the tree does not name the value y of the field f
abbrev pub Unnamed : ℕ → ℕ → Tree → Type 0
Unnamed f y none = Unit {0}
Unnamed f y (also o t) = (slice_index_or o f None ≢ Some y) × Unnamed f y t
Unnamed f y (test g x a b) = (g ≡ f → x ≢ y) × Unnamed f y a × Unnamed f y b
