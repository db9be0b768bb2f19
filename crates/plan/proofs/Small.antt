-- Values of 16 bits: of each node in turn, and of the policy that the nodes mean.
use Rattle.std.proofs.Common.{◌≡◌, ℕ, zero, suc, ◌-◌, true, List, [], ◌∷◌, ◌++◌, length}
use Rattle.std.proofs.lemmas.Bool.{and_parts, ltb-true}
use Rattle.packet.specs.Policy.{InRange}
use Rattle.text.specs.declared.node.Node.{Node}
use Rattle.text.specs.declared.node.Node.TheVariants.{Always, Is, Both, Either, Not, Keep, Put, And, Then}
use Rattle.text.specs.Trees.{Tree, as_policy, policy_at, tree_of, build, meaning}
use Rattle.plan.specs.Values.{small, all_small}

-- every tree that is a policy puts only such values
Ranged : List Tree → Type 0
Ranged ts = (k : ℕ) → InRange (policy_at ts k)

-- the trees of no nodes
none_ranged : Ranged []
unfolding Ranged
none_ranged zero = tt
none_ranged (suc k) = tt

ranged_push : (ts : List Tree) (t : Tree) → Ranged ts → InRange (as_policy t) → Ranged (ts ++ t ∷ [])
unfolding Ranged
ranged_push [] t h one zero = one
ranged_push [] t h one (suc k) = tt
ranged_push (s ∷ ts) t h one zero = h 0
ranged_push (s ∷ ts) t h one (suc k) = ranged_push ts t (λ j. h (suc j)) one k

tree_ranged : (done : List Tree) (n : Node) → Ranged done → small n ≡ true → InRange (as_policy (tree_of done n))
unfolding Ranged tree_of
tree_ranged done Always h one = tt
tree_ranged done (Is f x) h one = tt
tree_ranged done (Both a b) h one = tt
tree_ranged done (Either a b) h one = tt
tree_ranged done (Not a) h one = tt
tree_ranged done (Keep a) h one = tt
tree_ranged done (Put f x) h one = ltb-true x 65536 one
tree_ranged done (And a b) h one = (h a, h b)
tree_ranged done (Then a b) h one = (h a, h b)

build_ranged : (done : List Tree) (ns : List Node) → Ranged done → all_small ns ≡ true → Ranged (build done ns)
unfolding build
build_ranged done [] h all = h
build_ranged done (n ∷ ns) h all =
    let p = and_parts (small n) (all_small ns) all in
    build_ranged (done ++ tree_of done n ∷ []) ns (ranged_push done (tree_of done n) h (tree_ranged done n h p.0)) p.1

pub small_ranged : (ns : List Node) → all_small ns ≡ true → InRange (meaning ns)
unfolding Ranged
small_ranged ns all = build_ranged [] ns none_ranged all (length ns - 1)
