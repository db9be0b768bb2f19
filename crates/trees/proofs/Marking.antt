-- Values that are marked, and trees that do not name a value that isn't.
use Rattle.std.proofs.Common.{◌≡◌, ℕ, zero, suc, ◌+◌, ◌<◌, ◌≤◌, Bool, true, false, eqb, ◌≢◌, ◌⊎◌, List, [], ◌∷◌, ◌++◌, length, get_or, take, set, Some, None, Option, sym, ap, ◌∙◌, subst, ⊎_elim, arith, eq-eqb}
use borrow.Author.Count.{below_more}
use Rattle.std.proofs.lemmas.List.{get_or-set_same, get_or-set_other, set_past, take_at}
use Rattle.std.proofs.lemmas.Bool.{true≢false, cases_eq, cases_lt, cond-true}
use Rattle.trees.specs.declared.node.Node.{Node}
use Rattle.trees.specs.declared.node.Node.TheVariants.{Nothing, Also, Test}
use Rattle.trees.specs.Trees.{Tree, none}
use Rattle.trees.specs.Nodes.{tree_of, build, tree_at}
use Rattle.trees.specs.Names.{named_by, Unnamed}
use Rattle.trees.specs.Search.{Marks, Marked}

pub marks_more : (v : Option ℕ) (ms : List Bool) (x : ℕ) → Marks v ms → Marks v (set ms x true)
marks_more None ms x h = tt
marks_more (Some y) ms x h =
    ⊎_elim
    (λ e. ⊎_elim
    (λ l. ap (λ k. get_or (set ms x true) k true) e ∙ get_or-set_same ms x true true l)
    (λ l. ap (λ k. get_or k y true) (set_past ms x true l) ∙ h)
    (within x (length ms)))
    (λ ne. let other : y ≢ x = ne in get_or-set_other ms x y true true other ∙ h) (cases_eq y x)
  where
    within : (a b : ℕ) → (a < b) ⊎ (b ≤ a)
    within a b = cases_lt a b

-- one node more, which names a value or none
module _ (f i : ℕ) (ns : List Node) (ms : List Bool) (so : (k : ℕ) → k < i → Marks (named_by f (get_or ns k Nothing)) ms) where
  pub marked_some : (x : ℕ) → named_by f (get_or ns i Nothing) ≡ Some x → x < length ms → (k : ℕ) → k < i + 1 → Marks (named_by f (get_or ns k Nothing)) (set ms x true)
  marked_some x e l =
      below_more (λ k. Marks (named_by f (get_or ns k Nothing)) (set ms x true)) i (λ k h. marks_more _ ms x (so k h))
      (subst (λ v. Marks v (set ms x true)) (sym e) (get_or-set_same ms x true true l))

  pub marked_none : named_by f (get_or ns i Nothing) ≡ None → (k : ℕ) → k < i + 1 → Marks (named_by f (get_or ns k Nothing)) ms
  marked_none e = below_more (λ k. Marks (named_by f (get_or ns k Nothing)) ms) i so (subst (λ v. Marks v ms) (sym e) tt)

pub marked_take : (f : ℕ) (ns : List Node) (ms more : List Bool) (n : ℕ) → length ms ≡ n → Marked f ns ms → Marked f ns (take n (ms ++ more))
marked_take f ns ms more n e h = subst (Marked f ns) (sym (take_at ms more n e)) h

-- a value that is not marked is named by none of the trees
module _ (f y : ℕ) (ms : List Bool) (out : get_or ms y true ≡ false) where
  missed : Marks (Some y) ms → ⊥
  missed h = true≢false (sym h ∙ out)

  unnamed_node : (d : List Tree) (n : Node) → Marks (named_by f n) ms → ((k : ℕ) → Unnamed f y (get_or d k none)) → Unnamed f y (tree_of d n)
  unfolding tree_of
  unnamed_node d Nothing h all = tt
  unnamed_node d (Also o rest) h all = (λ e. missed (subst (λ v. Marks v ms) e h), all rest)
  unnamed_node d (Test g x m u) h all =
      (λ e is. missed (subst (λ v. Marks v ms) (cond-true (eqb g f) (Some x) None (eq-eqb g f e) ∙ ap Some is) h), all m, all u)

  unnamed_push : (d : List Tree) (t : Tree) → ((k : ℕ) → Unnamed f y (get_or d k none)) → Unnamed f y t → (k : ℕ) → Unnamed f y (get_or (d ++ t ∷ []) k none)
  unnamed_push [] t all one zero = one
  unnamed_push [] t all one (suc k) = tt
  unnamed_push (s ∷ d) t all one zero = all 0
  unnamed_push (s ∷ d) t all one (suc k) = unnamed_push d t (λ j. all (suc j)) one k

  unnamed_all : (d : List Tree) (ns : List Node) → ((k : ℕ) → k < length ns → Marks (named_by f (get_or ns k Nothing)) ms) → ((k : ℕ) → Unnamed f y (get_or d k none)) →
      (k : ℕ) → Unnamed f y (get_or (build d ns) k none)
  unfolding build
  unnamed_all d [] h all k = all k
  unnamed_all d (n ∷ ns) h all k =
      unnamed_all (d ++ tree_of d n ∷ []) ns (λ j l. h (suc j) (omega arith))
      (unnamed_push d (tree_of d n) all (unnamed_node d n (h 0 (omega arith)) all)) k

  pub unnamed : (ns : List Node) → Marked f ns ms → (k : ℕ) → Unnamed f y (tree_at ns k)
  unnamed ns h k = unnamed_all [] ns h (λ j. tt) k
