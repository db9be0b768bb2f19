-- Which nodes are marked after some more were, and what the marked nodes have of their own.
use Rattle.std.proofs.Common.{◌≡◌, ℕ, zero, suc, ◌+◌, ◌<◌, Bool, true, false, cond, ◌⊎◌, List, [], ◌∷◌, ◌++◌, length, get_or, take, set, replicate, sym, refl, ap, ◌∙◌, subst, inl, inr, ⊎_elim, add-one, arith, length-set}
use mathlib.Core.List.Memᴰ
use mathlib.Core.List.{Memᴰ}
use Rattle.std.specs.List.{flat_map}
use Rattle.std.proofs.lemmas.List.{append-nil, append_assoc, get_or-set_same, get_or-set_other, get_or_past, get_or-replicate, length-replicate}
use Rattle.std.proofs.lemmas.Bool.{cases_eq, cases_lt, false≢true, cond-true}
use Rattle.packet.specs.Table.{Want}
use Rattle.text.specs.declared.node.Node.{Node}
use Rattle.text.specs.declared.node.Node.TheVariants.{Always}
use Rattle.leaves.specs.Under.{marking, marked}

abbrev pub Marked : List Bool → ℕ → Type 0
Marked row a = get_or row a false ≡ true

marked_within : (row : List Bool) (a : ℕ) → Marked row a → a < length row
marked_within row a h = ⊎_elim (λ lt. lt) (λ le. absurd (false≢true (sym (get_or_past row a false le) ∙ h))) (cases_lt a (length row))

set_keeps : (row : List Bool) (b a : ℕ) → Marked row a → Marked (set row b true) a
set_keeps row b a h =
    ⊎_elim
    (λ e. ap (λ i. get_or (set row b true) i false) e ∙ get_or-set_same row b true false (omega (arith, marked_within row a h)))
    (λ ne. get_or-set_other row b a true false ne ∙ h)
    (cases_eq a b)

pub marks_keep : (more : List ℕ) (row : List Bool) (a : ℕ) → Marked row a → Marked (marking more row) a
marks_keep [] row a h = h
marks_keep (b ∷ more) row a h = marks_keep more (set row b true) a (set_keeps row b a h)

pub marks_there : (more : List ℕ) (row : List Bool) (a : ℕ) → a < length row → Memᴰ a more → Marked (marking more row) a
marks_there [] row a lt m = absurd (Memᴰ.not-nil m)
marks_there (b ∷ more) row a lt m =
    ⊎_elim
    (λ e. marks_keep more (set row b true) a (ap (λ i. get_or (set row b true) i false) e ∙ get_or-set_same row b true false (omega arith)))
    (λ n. marks_there more (set row b true) a (omega (arith, length-set row b true)) n)
    (Memᴰ.cases_cons m)

pub marks_back : (more : List ℕ) (row : List Bool) (a : ℕ) → Marked (marking more row) a → Marked row a ⊎ Memᴰ a more
marks_back [] row a h = inl h
marks_back (b ∷ more) row a h =
    ⊎_elim
    (λ k. ⊎_elim (λ e. inr (Memᴰ.head e)) (λ ne. inl (sym (get_or-set_other row b a true false ne) ∙ k)) (cases_eq a b))
    (λ n. inr (Memᴰ.tail n))
    (marks_back more (set row b true) a h)

pub length_marking : (more : List ℕ) (row : List Bool) → length (marking more row) ≡ length row
length_marking [] row = refl
length_marking (b ∷ more) row = length_marking more (set row b true) ∙ length-set row b true

-- a row with one mark
blank : (n a : ℕ) → get_or (replicate n false) a false ≡ false
blank n a = ⊎_elim (λ lt. get_or-replicate n a false false lt) (λ le. get_or_past (replicate n false) a false (omega (arith, length-replicate n false))) (cases_lt a n)

pub one_mark : (n last a : ℕ) → Marked (set (replicate n false) last true) a → a ≡ last
one_mark n last a h =
    ⊎_elim (λ e. e) (λ ne. absurd (false≢true (sym (blank n a) ∙ sym (get_or-set_other (replicate n false) last a true false ne) ∙ h))) (cases_eq a last)

pub mark_there : (n last : ℕ) → last < n → Marked (set (replicate n false) last true) last
mark_there n last lt = get_or-set_same (replicate n false) last true false (omega (arith, length-replicate n false))

-- an element of one of several lists
pub joined_there : {A B : Type 0} (f : A → List B) (xs : List A) (x : A) (y : B) → Memᴰ x xs → Memᴰ y (f x) → Memᴰ y (flat_map f xs)
joined_there f [] x y m h = absurd (Memᴰ.not-nil m)
joined_there f (z ∷ zs) x y m h =
    ⊎_elim
    (λ e. Memᴰ.append_left (flat_map f zs) (subst (λ v. Memᴰ y (f v)) e h))
    (λ n. Memᴰ.append_right (f z) (joined_there f zs x y n h))
    (Memᴰ.cases_cons m)

pub joined_back : {A B : Type 0} (f : A → List B) (xs : List A) (y : B) → Memᴰ y (flat_map f xs) → (x : A) × (Memᴰ x xs × Memᴰ y (f x))
joined_back f [] y m = absurd (Memᴰ.not-nil m)
joined_back f (z ∷ zs) y m =
    ⊎_elim
    (λ n. (z, (Memᴰ.head refl, n)))
    (λ n. let r = joined_back f zs y n in (r.0, (Memᴰ.tail r.1.0, r.1.1)))
    (Memᴰ.append_cases (f z) m)

pub marked_none : (own : Node → List Want) (row : List Bool) → marked own row [] ≡ []
unfolding marked
marked_none own [] = refl
marked_none own (b ∷ row) = refl

-- one node more
marked_next : (own : Node → List Want) (row : List Bool) (ns : List Node) (k : ℕ) → k < length ns →
    marked own row (take (suc k) ns) ≡ marked own row (take k ns) ++ cond (get_or row k false) (own (get_or ns k Always)) []
unfolding marked
marked_next own [] ns k lt = refl
marked_next own (b ∷ row) [] k lt = absurd (omega arith)
marked_next own (b ∷ row) (n ∷ ns) zero lt = ap (λ l. cond b (own n) [] ++ l) (marked_none own row) ∙ append-nil (cond b (own n) [])
marked_next own (b ∷ row) (n ∷ ns) (suc k) lt =
    ap (λ l. cond b (own n) [] ++ l) (marked_next own row ns k (omega arith))
    ∙ sym (append_assoc (cond b (own n) []) (marked own row (take k ns)) (cond (get_or row k false) (own (get_or ns k Always)) []))

pub marked_more : (own : Node → List Want) (row : List Bool) (ns : List Node) (k : ℕ) → k < length ns →
    marked own row (take (k + 1) ns) ≡ marked own row (take k ns) ++ cond (get_or row k false) (own (get_or ns k Always)) []
marked_more own row ns k lt = ap (λ i. marked own row (take i ns)) (add-one k) ∙ marked_next own row ns k lt

-- what the marked nodes have
module _ (own : Node → List Want) (w : Want) where
  pub marked_there : (row : List Bool) (ns : List Node) (a : ℕ) → a < length ns → Marked row a → Memᴰ w (own (get_or ns a Always)) → Memᴰ w (marked own row ns)
  unfolding marked
  marked_there [] ns a lt h m = absurd (false≢true h)
  marked_there (b ∷ row) [] a lt h m = absurd (omega arith)
  marked_there (b ∷ row) (n ∷ ns) zero lt h m = Memᴰ.append_left (marked own row ns) (subst (λ l. Memᴰ w l) (sym (cond-true b (own n) [] h)) m)
  marked_there (b ∷ row) (n ∷ ns) (suc a) lt h m = Memᴰ.append_right (cond b (own n) []) (marked_there row ns a (omega arith) h m)

  pub marked_back : (row : List Bool) (ns : List Node) → Memᴰ w (marked own row ns) → (a : ℕ) × ((a < length ns) × (Marked row a × Memᴰ w (own (get_or ns a Always))))
  unfolding marked
  marked_back [] ns m = absurd (Memᴰ.not-nil m)
  marked_back (b ∷ row) [] m = absurd (Memᴰ.not-nil m)
  marked_back (b ∷ row) (n ∷ ns) m =
      ⊎_elim
      (λ k. (0, (omega arith, first b k)))
      (λ k. let r = marked_back row ns k in (suc r.0, (omega (arith, r.1.0), r.1.1)))
      (Memᴰ.append_cases (cond b (own n) []) m)
    where
      first : (c : Bool) → Memᴰ w (cond c (own n) []) → (c ≡ true) × Memᴰ w (own n)
      first true k = (refl, k)
      first false k = absurd (Memᴰ.not-nil k)
