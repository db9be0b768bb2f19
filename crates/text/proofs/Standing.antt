-- What each node of a text stands for, by what the nodes that it names stand for.
use Rattle.std.proofs.Common.{◌≡◌, ℕ, ◌+◌, ◌<◌, ◌≤◌, true, List, [], ◌∷◌, ◌++◌, length, get_or, take, drop, sym, refl, ap, ◌∙◌, arith}
use Rattle.std.proofs.lemmas.List.{take-append-drop, drop_more, get_or_append_left, get_or_push, get_or_past, length_push, length-take-le}
use Rattle.std.proofs.lemmas.Bool.{and_parts}
use Rattle.packet.specs.Policy.{both, either, isnt, keep, and, then}
use Rattle.text.specs.declared.node.Node.{Node}
use Rattle.text.specs.declared.node.Node.TheVariants.{Always, Is, Both, Either, Not, Keep, Put, And, Then}
use Rattle.text.specs.declared.node.Sort.TheVariants as sorts
use Rattle.text.specs.Nodes.{fitting, fits, sound}
use Rattle.text.specs.Trees.{Tree, a_test, a_policy, as_test, as_policy, test_at, policy_at, tree_of, build, trees}
use Rattle.text.proofs.Sound.{fitting_take, sound_at}

build_long : (done : List Tree) (ns : List Node) → length (build done ns) ≡ length done + length ns
unfolding build
build_long done [] = omega arith
build_long done (n ∷ ns) = build_long (done ++ tree_of done n ∷ []) ns ∙ omega (arith, length_push done (tree_of done n))

build_append : (done : List Tree) (ns ms : List Node) → build done (ns ++ ms) ≡ build (build done ns) ms
unfolding build
build_append done [] ms = refl
build_append done (n ∷ ns) ms = build_append (done ++ tree_of done n ∷ []) ns ms

-- later nodes change nothing
build_front : (done : List Tree) (ns : List Node) (a : ℕ) (d : Tree) → a < length done → get_or (build done ns) a d ≡ get_or done a d
unfolding build
build_front done [] a d lt = refl
build_front done (n ∷ ns) a d lt =
    build_front (done ++ tree_of done n ∷ []) ns a d (omega (arith, length_push done (tree_of done n))) ∙ get_or_append_left done _ d a lt

-- there is a tree for each node
pub trees_long : (ns : List Node) → length (trees ns) ≡ length ns
trees_long ns = build_long [] ns ∙ omega arith

pub tree_past : (ns : List Node) (k : ℕ) (d : Tree) → length ns ≤ k → get_or (trees ns) k d ≡ d
tree_past ns k d h = get_or_past (trees ns) k d (omega (arith, trees_long ns))

module _ (ns : List Node) (k : ℕ) (le : k ≤ length ns) where
  before_long : length (trees (take k ns)) ≡ k
  before_long = trees_long (take k ns) ∙ length-take-le k ns le

  cut : trees ns ≡ build (trees (take k ns)) (drop k ns)
  cut = ap (build []) (sym (take-append-drop k ns)) ∙ build_append [] (take k ns) (drop k ns)

  pub tree_before : (a : ℕ) (d : Tree) → a < k → get_or (trees (take k ns)) a d ≡ get_or (trees ns) a d
  tree_before a d h = sym (ap (λ l. get_or l a d) cut ∙ build_front (trees (take k ns)) (drop k ns) a d (omega (arith, before_long)))

  test_before : (a : ℕ) → fitting sorts.Test (take k ns) a ≡ true → test_at (trees (take k ns)) a ≡ test_at (trees ns) a
  test_before a h = ap as_test (tree_before a _ (fitting_take sorts.Test ns k a h).0)

  policy_before : (a : ℕ) → fitting sorts.Policy (take k ns) a ≡ true → policy_at (trees (take k ns)) a ≡ policy_at (trees ns) a
  policy_before a h = ap as_policy (tree_before a _ (fitting_take sorts.Policy ns k a h).0)

  -- a node stands for the same, whether it sees the nodes before it or all of them
  tree_same : (n : Node) → fits (take k ns) n ≡ true → tree_of (trees (take k ns)) n ≡ tree_of (trees ns) n
  unfolding tree_of
  tree_same Always h = refl
  tree_same (Is f x) h = refl
  tree_same (Both a b) h =
      let p = and_parts (fitting sorts.Test (take k ns) a) (fitting sorts.Test (take k ns) b) h in
      λ i. a_test (both (test_before a p.0 i) (test_before b p.1 i))
  tree_same (Either a b) h =
      let p = and_parts (fitting sorts.Test (take k ns) a) (fitting sorts.Test (take k ns) b) h in
      λ i. a_test (either (test_before a p.0 i) (test_before b p.1 i))
  tree_same (Not a) h = λ i. a_test (isnt (test_before a h i))
  tree_same (Keep a) h = λ i. a_policy (keep (test_before a h i))
  tree_same (Put f x) h = refl
  tree_same (And a b) h =
      let p = and_parts (fitting sorts.Policy (take k ns) a) (fitting sorts.Policy (take k ns) b) h in
      λ i. a_policy (and (policy_before a p.0 i) (policy_before b p.1 i))
  tree_same (Then a b) h =
      let p = and_parts (fitting sorts.Policy (take k ns) a) (fitting sorts.Policy (take k ns) b) h in
      λ i. a_policy (then (policy_before a p.0 i) (policy_before b p.1 i))

  tree_here : (d : Tree) → k < length ns → get_or (trees ns) k d ≡ tree_of (trees (take k ns)) (get_or ns k Always)
  unfolding build
  tree_here d lt =
      let done = trees (take k ns) in
      let n = get_or ns k Always in
      ap (λ l. get_or l k d) cut ∙ ap (λ l. get_or (build done l) k d) (drop_more ns k Always lt)
      ∙ build_front (done ++ tree_of done n ∷ []) (drop (k + 1) ns) k d (omega (arith, before_long, length_push done (tree_of done n)))
      ∙ get_or_push done _ d k before_long

-- node k of a text stands for what its operands stand for in that text
pub tree_at_lem : (ns : List Node) (k : ℕ) (d : Tree) → sound [] ns ≡ true → k < length ns → get_or (trees ns) k d ≡ tree_of (trees ns) (get_or ns k Always)
tree_at_lem ns k d so lt = tree_here ns k (omega arith) d lt ∙ tree_same ns k (omega arith) (get_or ns k Always) (sound_at [] ns k Always so lt)
