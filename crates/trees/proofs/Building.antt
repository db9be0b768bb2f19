-- The trees of a list of nodes: one node more, and each by the trees of those that it is built from.
use Rattle.std.proofs.Common.{◌≡◌, ℕ, zero, suc, ◌+◌, ◌<◌, Bool, true, false, cond, ◌&&◌, ltb, List, [], ◌∷◌, ◌++◌, length, get_or, slice_get, Some, Ok, Err, Result, IfOk, OnErr, sym, refl, ap, ◌∙◌, subst, ⊎_elim, zero-add, arith, ltb-true}
use Rattle.std.proofs.lemmas.List.{length_push, get_or_append_left, get_or_push, get_or_past}
use Rattle.std.proofs.lemmas.Bool.{and_parts, and_from, cases_lt}
use Rattle.std.proofs.lemmas.Option.{slice_get_within, get_or_from_slice_get}
use Rattle.std.specs.List.{list_any}
use Rattle.indexmap.specs.IndexSet.{insert_key}
use Rattle.trees.specs.declared.node.Node.{Node}
use Rattle.trees.specs.declared.node.Node.TheVariants.{Nothing, Also, Test}
use Rattle.trees.specs.Trees.{Tree, none, also, test}
use Rattle.trees.specs.Nodes.{tree_of, build, trees, tree_at, is_over, ordered, Kept}
use Rattle.trees.specs.Stores.{Stands}

pub build_push : (d : List Tree) (ns : List Node) (n : Node) → build d (ns ++ n ∷ []) ≡ build d ns ++ tree_of (build d ns) n ∷ []
unfolding build
build_push d [] n = refl
build_push d (m ∷ ms) n = build_push (d ++ tree_of d m ∷ []) ms n

build_length : (d : List Tree) (ns : List Node) → length (build d ns) ≡ length d + length ns
unfolding build
build_length d [] = omega arith
build_length d (m ∷ ms) = omega (arith, build_length (d ++ tree_of d m ∷ []) ms, length_push d (tree_of d m))

pub trees_length : (ns : List Node) → length (trees ns) ≡ length ns
trees_length ns = build_length [] ns ∙ zero-add (length ns)

build_front : (d : List Tree) (ns : List Node) (k : ℕ) → k < length d → get_or (build d ns) k none ≡ get_or d k none
unfolding build
build_front d [] k h = refl
build_front d (m ∷ ms) k h =
    build_front (d ++ tree_of d m ∷ []) ms k (omega (arith, length_push d (tree_of d m))) ∙ get_or_append_left d (tree_of d m ∷ []) none k h

-- a node depends on earlier trees alone
tree_like : (k : ℕ) (n : Node) (d e : List Tree) → is_over k n ≡ true → ((j : ℕ) → j < k → get_or d j none ≡ get_or e j none) → tree_of d n ≡ tree_of e n
unfolding tree_of
tree_like k Nothing d e o h = refl
tree_like k (Also out rest) d e o h = ap (also out.sets) (h rest (ltb-true rest k o))
tree_like k (Test f x m u) d e o h =
    let both = and_parts (ltb m k) (ltb u k) o in
    ap (λ t. test f x t (get_or d u none)) (h m (ltb-true m k both.0)) ∙ ap (test f x (get_or e m none)) (h u (ltb-true u k both.1))

build_at : (d : List Tree) (ns : List Node) (i : ℕ) → ordered (length d) ns ≡ true → i < length ns →
    get_or (build d ns) (length d + i) none ≡ tree_of (build d ns) (get_or ns i Nothing)
unfolding build ordered
build_at d [] i o h = absurd (omega arith)
build_at d (m ∷ ms) zero o h =
    let d' : List Tree = d ++ tree_of d m ∷ [] in
    let longer : length d' ≡ length d + 1 = length_push d (tree_of d m) in
    ap (λ k. get_or (build d' ms) k none) (omega arith)
    ∙ build_front d' ms (length d) (omega arith)
    ∙ get_or_push d (tree_of d m) none (length d) refl
    ∙ tree_like (length d) m d (build d' ms) (and_parts (is_over (length d) m) _ o).0
    (λ j l. sym (build_front d' ms j (omega arith) ∙ get_or_append_left d (tree_of d m ∷ []) none j l))
build_at d (m ∷ ms) (suc i) o h =
    let d' : List Tree = d ++ tree_of d m ∷ [] in
    let longer : length d' ≡ length d + 1 = length_push d (tree_of d m) in
    ap (λ k. get_or (build d' ms) k none) (omega arith)
    ∙ build_at d' ms i (ap (λ k. ordered k ms) longer ∙ (and_parts (is_over (length d) m) _ o).1) (omega arith)

pub tree_at_lem : (ns : List Node) (k : ℕ) → ordered 0 ns ≡ true → tree_at ns k ≡ tree_of (trees ns) (get_or ns k Nothing)
unfolding tree_of
tree_at_lem ns k o =
    ⊎_elim
    (λ l. ap (λ j. get_or (trees ns) j none) (sym (zero-add k)) ∙ build_at [] ns k o l)
    (λ g. get_or_past (trees ns) k none (omega (arith, trees_length ns)) ∙ ap (tree_of (trees ns)) (sym (get_or_past ns k Nothing g)))
    (cases_lt k (length ns))

pub ordered_at : (k : ℕ) (ns : List Node) (i : ℕ) → ordered k ns ≡ true → i < length ns → is_over (k + i) (get_or ns i Nothing) ≡ true
unfolding ordered
ordered_at k [] i o h = absurd (omega arith)
ordered_at k (n ∷ ns) zero o h = ap (λ j. is_over j n) (omega arith) ∙ (and_parts (is_over k n) _ o).0
ordered_at k (n ∷ ns) (suc i) o h =
    ap (λ j. is_over j (get_or ns i Nothing)) (omega arith) ∙ ordered_at (k + 1) ns i (and_parts (is_over k n) _ o).1 (omega arith)

pub over_at : (ns : List Node) (k : ℕ) → ordered 0 ns ≡ true → is_over k (get_or ns k Nothing) ≡ true
over_at ns k o =
    ⊎_elim
    (λ l. ap (λ j. is_over j (get_or ns k Nothing)) (sym (zero-add k)) ∙ ordered_at 0 ns k o l)
    (λ g. ap (is_over k) (get_or_past ns k Nothing g))
    (cases_lt k (length ns))

ordered_more : (k : ℕ) (ns : List Node) (n : Node) → ordered k ns ≡ true → is_over (k + length ns) n ≡ true → ordered k (ns ++ n ∷ []) ≡ true
unfolding ordered
ordered_more k [] n o h = and_from _ _ (ap (λ j. is_over j n) (omega arith) ∙ h) refl
ordered_more k (m ∷ ms) n o h =
    let both = and_parts (is_over k m) (ordered (k + 1) ms) o in
    and_from _ _ both.0 (ordered_more (k + 1) ms n both.1 (ap (λ j. is_over j n) (omega arith) ∙ h))

pub ordered_push : (ns : List Node) (n : Node) → ordered 0 ns ≡ true → is_over (length ns) n ≡ true → ordered 0 (ns ++ n ∷ []) ≡ true
ordered_push ns n o h = ordered_more 0 ns n o (ap (λ j. is_over j n) (zero-add (length ns)) ∙ h)

-- every tree is kept
pub kept_all : (ns : List Node) → Kept ns ns
kept_all ns = record { longer = omega arith; same = λ k h. refl }

pub kept_then : {ns ms ls : List Node} → Kept ns ms → Kept ms ls → Kept ns ls
kept_then a b = record { longer = omega (arith, a.longer, b.longer); same = λ k h. b.same k (omega (arith, a.longer)) ∙ a.same k h }

pub kept_push : (ns : List Node) (n : Node) → Kept ns (ns ++ n ∷ [])
kept_push ns n =
    record {
      longer = omega (arith, length_push ns n);
      same =
          λ k h.
          ap (λ ts. get_or ts k none) (build_push [] ns n)
          ∙ get_or_append_left (trees ns) (tree_of (trees ns) n ∷ []) none k (omega (arith, trees_length ns));
    }

-- a node that is put into the set of nodes: it is there already, or comes last
module _ (eq : Node → Node → Bool) (ns : List Node) (n : Node) (o : ordered 0 ns ≡ true) (h : is_over (length ns) n ≡ true) where
  put_cases : (P : List Node → Type 0) → P ns → P (ns ++ n ∷ []) → P (insert_key eq ns n)
  put_cases P old new = elim (list_any (eq n) ns) as (λ b. P (cond b ns (ns ++ n ∷ []))) [ true ↦ old | false ↦ new ]

  ordered_put : ordered 0 (insert_key eq ns n) ≡ true
  ordered_put = put_cases (λ ms. ordered 0 ms ≡ true) o (ordered_push ns n o h)

  -- where there was memory for it, and where not
  pub ordered_after : {X Y : Type 0} (ms : List Node) (r : Result X Y) → IfOk r (λ _. ms ≡ insert_key eq ns n) → OnErr r (ms ≡ ns) → ordered 0 ms ≡ true
  ordered_after ms (Ok x) e _ = ap (ordered 0) e ∙ ordered_put
  ordered_after ms (Err y) _ e = ap (ordered 0) e ∙ o

  kept_put : Kept ns (insert_key eq ns n)
  kept_put = put_cases (Kept ns) (kept_all ns) (kept_push ns n)

  -- it stands where an equal one is found
  pub put : (ms : List Node) (k : ℕ) (m : Node) → ms ≡ insert_key eq ns n → slice_get ms k ≡ Some m → n ≡ m → Kept ns ms × Stands ms k (tree_of (trees ns) n)
  put ms k m e at same =
      let kept : Kept ns ms = subst (Kept ns) (sym e) kept_put in (
        kept,
        record {
          there = slice_get_within ms k m at;
          tree =
              tree_at_lem ms k (ap (ordered 0) e ∙ ordered_put)
              ∙ ap (tree_of (trees ms)) (get_or_from_slice_get ms k m Nothing at ∙ sym same)
              ∙ tree_like (length ns) n (trees ms) (trees ns) h kept.same;
        },
      )

-- what a node is built from has smaller numbers
pub over_test : (m u k : ℕ) → (ltb m k && ltb u k) ≡ true → (m < k) × (u < k)
over_test m u k h = let both = and_parts (ltb m k) (ltb u k) h in (ltb-true m k both.0, ltb-true u k both.1)
