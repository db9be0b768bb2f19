-- An element is inserted at its place, and a rising list has one more element.
use Rattle.std.proofs.Common.{◌≡◌, ℕ, zero, suc, ◌+◌, ◌-◌, ◌<◌, ◌≤◌, Bool, true, false, List, [], ◌∷◌, ◌++◌, map, length, get_or, take, drop, set, Ordering, Less, Equal, Greater, Err, sym, refl, ap, ◌∙◌, subst, ⊎_elim, arith, add-one}
use lib.Seq.{paste}
use mathlib.Core.List.Memᴰ
use mathlib.Core.List.{Memᴰ}
use Rattle.std.specs.Cmp.{IsTotalOrder}
use Rattle.std.specs.List.{insert as inserted, HoldsAt}
use Rattle.std.specs.List.Sorted.{IsSortedBy, IsBinarySearchResult}
use Rattle.std.specs.Ordering.{is_lt, ordering_reverse}
use Rattle.std.proofs.lemmas.Bool.{cases_Bool, both_ways, cond-true, cond-false}
use Rattle.std.proofs.lemmas.Cmp.{tied_back}
use Rattle.std.proofs.lemmas.List.{length-take-le, length-append, length-drop, append_assoc, take_more, take-take, take_at, drop-take, set_at}
use Rattle.std.proofs.lemmas.List.Sorted.{searchable_from_sorted}
use Rattle.prescribed.specs.Order.{insert, rising}
use Rattle.prescribed.proofs.Members.{SameElements, all_member}
use Rattle.prescribed.proofs.Rising.{Ordered, Rises, rising_same, rising_rises, rises_once}

module _ {A : Type 0} (less : A → A → Bool) (order : Ordered less) where
  not_back : (x y : A) → less y x ≡ true → less x y ≡ false
  not_back x y h = ⊎_elim (λ e. absurd (both_ways (less x x) (order.never x) (order.further x y x e h))) (λ e. e) (cases_Bool (less x y))

  -- one that is less is passed, the first that is greater is not, and the same one stays
  passed : (x y : A) (ys : List A) → less y x ≡ true → insert less x (y ∷ ys) ≡ y ∷ insert less x ys
  unfolding insert
  passed x y ys h = cond-false (less x y) _ _ (not_back x y h) ∙ cond-true (less y x) _ _ h

  before : (x y : A) (ys : List A) → less x y ≡ true → insert less x (y ∷ ys) ≡ x ∷ (y ∷ ys)
  unfolding insert
  before x y ys h = cond-true (less x y) _ _ h

  same : (x y : A) (ys : List A) → less x y ≡ false → less y x ≡ false → insert less x (y ∷ ys) ≡ y ∷ ys
  unfolding insert
  same x y ys h k = cond-false (less x y) _ _ h ∙ cond-false (less y x) _ _ k

  -- one that is there stays
  insert_there : (x : A) (ys : List A) → Rises less ys → Memᴰ x ys → insert less x ys ≡ ys
  insert_there x [] h m = absurd (Memᴰ.not-nil m)
  insert_there x (y ∷ ys) h m =
      ⊎_elim
      (λ e. same x y ys (ap (less x) (sym e) ∙ order.never x) (ap (λ z. less z x) (sym e) ∙ order.never x))
      (λ n. passed x y ys (all_member (λ z. less y z ≡ true) x ys h.0 n) ∙ ap (λ l. y ∷ l) (insert_there x ys h.1 n))
      (Memᴰ.cases_cons m)

  -- the place between those that are less and those that are greater, where the elements are seen through a function
  placed : {X : Type 0} (f : X → A) (ys : List X) (x : X) (i : ℕ) → i ≤ length ys → ((k : ℕ) → k < i → less (f (get_or ys k x)) (f x) ≡ true) →
      (i < length ys → less (f x) (f (get_or ys i x)) ≡ true) → map f (inserted ys i x) ≡ insert less (f x) (map f ys)
  unfolding insert
  placed f [] x zero le a b = refl
  placed f [] x (suc i) le a b = absurd (omega arith)
  placed f (y ∷ ys) x zero le a b = sym (before (f x) (f y) (map f ys) (b (omega arith)))
  placed f (y ∷ ys) x (suc i) le a b =
      ap (λ l. f y ∷ l) (placed f ys x i (omega arith) (λ k l. a (suc k) (omega arith)) (λ l. b (omega arith)))
      ∙ sym (passed (f x) (f y) (map f ys) (a zero (omega arith)))

  -- which elements there are decides the rising list
  pub rising_alike : (xs ys : List A) → SameElements xs ys → rising less xs ≡ rising less ys
  rising_alike xs ys h =
      rises_once less order (rising less xs) (rising less ys) (rising_rises less order xs) (rising_rises less order ys)
      (λ z. (
        λ m. (rising_same less order ys z).1 ((h z).0 ((rising_same less order xs z).0 m)),
        λ m. (rising_same less order xs z).1 ((h z).1 ((rising_same less order ys z).0 m)),
      ))

  pub rising_push : (xs : List A) (x : A) → rising less (xs ++ x ∷ []) ≡ insert less x (rising less xs)
  unfolding rising
  rising_push xs x =
      rising_alike (xs ++ x ∷ []) (x ∷ xs)
      (λ z. (
        λ m. ⊎_elim (λ n. Memᴰ.tail n) (λ n. Memᴰ.head (Memᴰ.eq_of_singleton n)) (Memᴰ.append_cases xs m),
        λ m. ⊎_elim (λ e. Memᴰ.append_right xs (Memᴰ.head e)) (λ n. Memᴰ.append_left (x ∷ []) n) (Memᴰ.cases_cons m),
      ))

-- what a binary search finds in a rising list, by an order of which `less` is the test
module _ {A X : Type 0} (less : A → A → Bool) (order : Ordered less) (f : X → A) (R : X → X → Ordering) (total : IsTotalOrder R) (test : (x y : X) → is_lt (R x y) ≡ less (f x) (f y)) where
  is_less : (x y : X) → R x y ≡ Less → less (f x) (f y) ≡ true
  is_less x y e = sym (test x y) ∙ ap is_lt e

  is_more : (x y : X) → R x y ≡ Greater → less (f y) (f x) ≡ true
  is_more x y e = is_less y x (total.antisymm y x ∙ ap ordering_reverse e)

  is_same : (x y : X) → R x y ≡ Equal → f x ≡ f y
  is_same x y e = order.total (f x) (f y) (sym (test x y) ∙ ap is_lt e) (sym (test y x) ∙ ap is_lt (tied_back total x y e))

  sorted_next : (ys : List X) → Rises less (map f ys) → (k : ℕ) (d : X) → suc k < length ys → is_lt (R (get_or ys (suc k) d) (get_or ys k d)) ≡ false
  sorted_next [] h k d lt = absurd (omega arith)
  sorted_next (y ∷ []) h k d lt = absurd (omega arith)
  sorted_next (y ∷ (x ∷ ys)) h zero d lt = test x y ∙ not_back less order (f x) (f y) h.0.0
  sorted_next (y ∷ (x ∷ ys)) h (suc k) d lt = sorted_next (x ∷ ys) h.1 k d (omega arith)

  sorted : (ys : List X) → Rises less (map f ys) → IsSortedBy (λ x y. is_lt (R x y)) ys
  sorted ys h k d z lt = subst (λ j. is_lt (R (get_or ys j d) (get_or ys k d)) ≡ false) (sym (add-one k)) (sorted_next ys h k d (omega arith))

  member : (ys : List X) (x : X) (i : ℕ) → i < length ys → f (get_or ys i x) ≡ f x → Memᴰ (f x) (map f ys)
  member [] x i lt e = absurd (omega arith)
  member (y ∷ ys) x zero lt e = Memᴰ.head (sym e)
  member (y ∷ ys) x (suc i) lt e = Memᴰ.tail (member ys x i (omega arith) e)

  module _ (ys : List X) (x : X) (os : List A) (is : map f ys ≡ rising less os) where
    rises : Rises less (map f ys)
    rises = subst (Rises less) (sym is) (rising_rises less order os)

    pub found : (i : ℕ) → i < length ys → HoldsAt (λ y. R y x ≡ Equal) ys i → map f ys ≡ insert less (f x) (map f ys)
    found i lt at = sym (insert_there less order (f x) (map f ys) rises (member ys x i lt (is_same (get_or ys i x) x (at x))))

    pub not_found : (i : ℕ) → i ≤ length ys → IsBinarySearchResult (λ y. R y x) ys (Err i) → map f (inserted ys i x) ≡ insert less (f x) (map f ys)
    not_found i le at =
        let p = at (searchable_from_sorted total (λ y. y) ys x (sorted ys rises)) in
        placed less order f ys x i le (λ k lt. is_less (get_or ys k x) x (p.0 k x (omega arith) lt)) (λ lt. is_more (get_or ys i x) x (p.1 i x (omega arith) lt))

-- room is made at place i: what stands there up to place n goes one place on, and x comes in
module _ {X : Type 0} (xs : List X) (i n : ℕ) (x : X) (le : i ≤ n) (lt : n < length xs) where
  abbrev moved : List X
  moved = take (n - i) (drop i xs)

  abbrev rest : List X
  rest = drop ((i + 1) + (n - i)) xs

  moved_long : length moved ≡ n - i
  moved_long = length-take-le (n - i) (drop i xs) (omega (arith, length-drop i xs))

  pasted : set (paste xs (i + 1) (drop i xs) (n - i)) i x ≡ (take i xs ++ x ∷ moved) ++ rest
  pasted =
      ap (λ l. set ((l ++ moved) ++ rest) i x) (take_more xs i x (omega arith))
      ∙ ap (λ l. set l i x) (append_assoc (take i xs ++ get_or xs i x ∷ []) moved rest ∙ append_assoc (take i xs) (get_or xs i x ∷ []) (moved ++ rest))
      ∙ set_at (take i xs) (get_or xs i x) (moved ++ rest) x i (length-take-le i xs (omega arith))
      ∙ sym (append_assoc (take i xs) (x ∷ moved) rest)

  pub shifted : take (n + 1) (set (paste xs (i + 1) (drop i xs) (n - i)) i x) ≡ inserted (take n xs) i x
  shifted =
      ap (take (n + 1)) pasted
      ∙ take_at (take i xs ++ x ∷ moved) rest (n + 1) (omega (arith, length-append (take i xs) (x ∷ moved), length-take-le i xs (omega arith), moved_long))
      ∙ sym (λ k. take-take i n xs le k ++ x ∷ inside k)
    where
      inside : drop i (take n xs) ≡ moved
      inside = let e : n ≡ i + (n - i) = omega arith in ap (λ m. drop i (take m xs)) e ∙ drop-take i (n - i) xs
