-- What a node tells of a packet, by what the earlier nodes tell.
use Rattle.std.proofs.Common.{◌≡◌, ℕ, ◌<◌, Bool, true, false, not, ◌&&◌, ◌||◌, eqb, List, [], length, get_or, take, sym, refl, ap, ◌∙◌}
use Rattle.std.proofs.lemmas.Bool.{and_parts, true≢false}
use Rattle.packet.specs.Packet.{Packet, field}
use Rattle.packet.specs.Policy.{holds, always, isnt, keep}
use Rattle.text.specs.declared.node.Node.{Node}
use Rattle.text.specs.declared.node.Node.TheVariants.{Always, Is, Both, Either, Not, Keep, Put, And, Then}
use Rattle.text.specs.declared.node.Sort.TheVariants as sorts
use Rattle.text.specs.Nodes.{sort_of, same_sort, fitting, fits, sound}
use Rattle.text.specs.Trees.{Tree, a_test, as_test, as_policy, test_at, policy_at, tree_of, trees}
use Rattle.text.proofs.Sound.{fitting_take, sound_at}
use Rattle.text.proofs.Standing.{tree_at_lem}
use Rattle.meaning.specs.Kept.{Earlier, Stands, Says}

-- operands that fit are earlier ones
earlier : (ns : List Node) (k : ℕ) (n : Node) → fits (take k ns) n ≡ true → Earlier k n
earlier ns k Always h = tt
earlier ns k (Is f x) h = tt
earlier ns k (Both a b) h =
    let p = and_parts (fitting sorts.Test (take k ns) a) (fitting sorts.Test (take k ns) b) h in
    ((fitting_take sorts.Test ns k a p.0).0, (fitting_take sorts.Test ns k b p.1).0)
earlier ns k (Either a b) h =
    let p = and_parts (fitting sorts.Test (take k ns) a) (fitting sorts.Test (take k ns) b) h in
    ((fitting_take sorts.Test ns k a p.0).0, (fitting_take sorts.Test ns k b p.1).0)
earlier ns k (Not a) h = (fitting_take sorts.Test ns k a h).0
earlier ns k (Keep a) h = (fitting_take sorts.Test ns k a h).0
earlier ns k (Put f x) h = tt
earlier ns k (And a b) h =
    let p = and_parts (fitting sorts.Policy (take k ns) a) (fitting sorts.Policy (take k ns) b) h in
    ((fitting_take sorts.Policy ns k a p.0).0, (fitting_take sorts.Policy ns k b p.1).0)
earlier ns k (Then a b) h =
    let p = and_parts (fitting sorts.Policy (take k ns) a) (fitting sorts.Policy (take k ns) b) h in
    ((fitting_take sorts.Policy ns k a p.0).0, (fitting_take sorts.Policy ns k b p.1).0)

pub stands : (ns : List Node) (k : ℕ) (n : Node) → sound [] ns ≡ true → k < length ns → n ≡ get_or ns k Always → Stands ns k n
stands ns k n so lt is = record {
  tree = tree_at_lem ns k (a_test (isnt always)) so lt ∙ ap (tree_of (trees ns)) (sym is);
  earlier = earlier ns k n (ap (fits (take k ns)) is ∙ sound_at [] ns k Always so lt);
}

abbrev pub tells : List Bool → Packet → Node → Bool
tells row p Always = true
tells row p (Is f x) = eqb (field f p) x
tells row p (Both a b) = get_or row a false && get_or row b false
tells row p (Either a b) = get_or row a false || get_or row b false
tells row p (Not a) = not (get_or row a false)
tells row p (Keep a) = false
tells row p (Put f x) = false
tells row p (And a b) = false
tells row p (Then a b) = false

module _ (ns : List Node) (k : ℕ) (p : Packet) (row : List Bool) (says : Says ns k p row) where
  by_tree : (n : Node) → Earlier k n → tells row p n ≡ holds (as_test (tree_of (trees ns) n)) p
  unfolding tree_of holds
  by_tree Always h = refl
  by_tree (Is f x) h = refl
  by_tree (Both a b) h = λ i. says a h.0 i && says b h.1 i
  by_tree (Either a b) h = λ i. says a h.0 i || says b h.1 i
  by_tree (Not a) h = ap not (says a h)
  by_tree (Keep a) h = refl
  by_tree (Put f x) h = refl
  by_tree (And a b) h = refl
  by_tree (Then a b) h = refl

  pub told_by : (n : Node) → Stands ns k n → tells row p n ≡ holds (test_at (trees ns) k) p
  told_by n st = by_tree n st.earlier ∙ ap (λ t. holds (as_test t) p) (sym st.tree)

abbrev pub a_test_lem : Node → Bool
a_test_lem n = same_sort (sort_of n) sorts.Test

kept_test : (ts : List Tree) (n : Node) → a_test_lem n ≡ true → as_policy (tree_of ts n) ≡ keep (as_test (tree_of ts n))
unfolding tree_of
kept_test ts Always h = refl
kept_test ts (Is f x) h = refl
kept_test ts (Both a b) h = refl
kept_test ts (Either a b) h = refl
kept_test ts (Not a) h = refl
kept_test ts (Keep a) h = absurd (true≢false (sym h))
kept_test ts (Put f x) h = absurd (true≢false (sym h))
kept_test ts (And a b) h = absurd (true≢false (sym h))
kept_test ts (Then a b) h = absurd (true≢false (sym h))

-- a test stands for keeping it
pub test_keeps : (ns : List Node) (k : ℕ) (n : Node) → Stands ns k n → a_test_lem n ≡ true → policy_at (trees ns) k ≡ keep (test_at (trees ns) k)
test_keeps ns k n st h = ap as_policy st.tree ∙ kept_test (trees ns) n h ∙ ap (λ t. keep (as_test t)) (sym st.tree)
