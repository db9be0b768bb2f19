-- A list put in rising order rises, has the elements that it had, and is the only one that rises and has them.
use Rattle.std.proofs.Common.{◌≡◌, Bool, true, false, ◌⊎◌, List, [], ◌∷◌, sym, refl, ap, ◌∙◌, inl, inr, ⊎_elim}
use mathlib.Core.List.Memᴰ
use mathlib.Core.List.{Memᴰ}
use Rattle.std.specs.List.{AllByRecursion}
use Rattle.std.proofs.ByRecursion.{All-weaker}
use Rattle.std.proofs.lemmas.Bool.{cond_both, both_ways}
use Rattle.prescribed.specs.Order.{insert, rising}
use Rattle.prescribed.proofs.Members.{SameElements, all_member}

-- an order in which two elements of which neither is less are the same
pub record Ordered {A : Type 0} (less : A → A → Bool) : Type 0 where
  pub never : (x : A) → less x x ≡ false
  pub further : (x y z : A) → less x y ≡ true → less y z ≡ true → less x z ≡ true
  pub total : (x y : A) → less x y ≡ false → less y x ≡ false → x ≡ y

-- each element is less than all behind it
abbrev pub Rises : {A : Type 0} → (A → A → Bool) → List A → Type 0
Rises less [] = Unit {0}
Rises less (x ∷ xs) = AllByRecursion (λ y. less x y ≡ true) xs × Rises less xs

module _ {A : Type 0} (less : A → A → Bool) where
  insert_cases : (x z : A) (ys : List A) → Memᴰ z (insert less x ys) → (z ≡ x) ⊎ Memᴰ z ys
  unfolding insert
  insert_cases x z [] = λ m. Memᴰ.cases_cons m
  insert_cases x z (y ∷ ys) =
      let P : List A → Type 0 = λ l. Memᴰ z l → (z ≡ x) ⊎ Memᴰ z (y ∷ ys) in
      cond_both (less x y) _ _ P (λ e m. Memᴰ.cases_cons m)
      (λ e. cond_both (less y x) _ _ P
      (λ d m. ⊎_elim
      (λ c. inr (Memᴰ.head c))
      (λ n. ⊎_elim (λ c. inl c) (λ k. inr (Memᴰ.tail k)) (insert_cases x z ys n))
      (Memᴰ.cases_cons m))
      (λ d m. inr m))

  insert_old : (x z : A) (ys : List A) → Memᴰ z ys → Memᴰ z (insert less x ys)
  unfolding insert
  insert_old x z [] m = Memᴰ.tail m
  insert_old x z (y ∷ ys) m =
      cond_both (less x y) _ _ (Memᴰ z) (λ e. Memᴰ.tail m)
      (λ e. cond_both (less y x) _ _ (Memᴰ z)
      (λ d. ⊎_elim (λ c. Memᴰ.head c) (λ n. Memᴰ.tail (insert_old x z ys n)) (Memᴰ.cases_cons m)) (λ d. m))

  insert_all : (P : A → Type 0) (x : A) (ys : List A) → P x → AllByRecursion P ys → AllByRecursion P (insert less x ys)
  unfolding insert
  insert_all P x [] h k = (h, tt)
  insert_all P x (y ∷ ys) h k =
      cond_both (less x y) _ _ (AllByRecursion P) (λ e. (h, k)) (λ e. cond_both (less y x) _ _ (AllByRecursion P) (λ d. (k.0, insert_all P x ys h k.1)) (λ d. k))

  pub rising_all : (P : A → Type 0) (xs : List A) → AllByRecursion P xs → AllByRecursion P (rising less xs)
  unfolding rising
  rising_all P [] h = tt
  rising_all P (x ∷ xs) h = insert_all P x (rising less xs) h.0 (rising_all P xs h.1)

  module _ (order : Ordered less) where
    insert_new : (x : A) (ys : List A) → Memᴰ x (insert less x ys)
    unfolding insert
    insert_new x [] = Memᴰ.head refl
    insert_new x (y ∷ ys) =
        cond_both (less x y) _ _ (Memᴰ x) (λ e. Memᴰ.head refl)
        (λ e. cond_both (less y x) _ _ (Memᴰ x) (λ d. Memᴰ.tail (insert_new x ys)) (λ d. Memᴰ.head (order.total x y e d)))

    pub rising_same : (xs : List A) → SameElements (rising less xs) xs
    unfolding rising
    rising_same [] z = (λ m. m, λ m. m)
    rising_same (x ∷ xs) z = (
      λ m. ⊎_elim (λ e. Memᴰ.head e) (λ n. Memᴰ.tail ((rising_same xs z).0 n)) (insert_cases x z (rising less xs) m),
      λ m. ⊎_elim
          (λ e. Memᴰ.cast e (insert_new x (rising less xs)))
          (λ n. insert_old x z (rising less xs) ((rising_same xs z).1 n))
          (Memᴰ.cases_cons m),
    )

    insert_rises : (x : A) (ys : List A) → Rises less ys → Rises less (insert less x ys)
    unfolding insert
    insert_rises x [] h = (tt, tt)
    insert_rises x (y ∷ ys) h =
        cond_both (less x y) _ _ (Rises less) (λ e. ((e, All-weaker _ (λ z. less x z ≡ true) (λ z d. order.further x y z e d) ys h.0), h))
        (λ e. cond_both (less y x) _ _ (Rises less) (λ d. (insert_all (λ z. less y z ≡ true) x ys d h.0, insert_rises x ys h.1)) (λ d. h))

    pub rising_rises : (xs : List A) → Rises less (rising less xs)
    unfolding rising
    rising_rises [] = tt
    rising_rises (x ∷ xs) = insert_rises x (rising less xs) (rising_rises xs)

    less_than_all : (x y : A) (xs : List A) → AllByRecursion (λ z. less x z ≡ true) xs → Memᴰ y xs → less x y ≡ true
    less_than_all x y xs h m = all_member (λ z. less x z ≡ true) y xs h m

    -- the first elements of two lists that rise and have the same elements
    same_first : (x y : A) (xs ys : List A) → Rises less (x ∷ xs) → Rises less (y ∷ ys) → SameElements (x ∷ xs) (y ∷ ys) → x ≡ y
    same_first x y xs ys h k e =
        ⊎_elim
        (λ d. d)
        (λ m. ⊎_elim
        (λ d. sym d)
        (λ n. absurd (both_ways (less x x) (order.never x) (order.further x y x (less_than_all x y xs h.0 n) (less_than_all y x ys k.0 m))))
        (Memᴰ.cases_cons ((e y).1 (Memᴰ.head refl))))
        (Memᴰ.cases_cons ((e x).0 (Memᴰ.head refl)))

    -- what is behind the first of one is behind the first of the other
    same_behind : (x y : A) (xs ys : List A) → x ≡ y → Rises less (x ∷ xs) → ((z : A) → Memᴰ z (x ∷ xs) → Memᴰ z (y ∷ ys)) → (z : A) → Memᴰ z xs → Memᴰ z ys
    same_behind x y xs ys e h k z m =
        ⊎_elim
        (λ d. absurd (both_ways (less x x) (order.never x) (ap (less x) (e ∙ sym d) ∙ less_than_all x z xs h.0 m)))
        (λ n. n)
        (Memᴰ.cases_cons (k z (Memᴰ.tail m)))

    pub rises_once : (xs ys : List A) → Rises less xs → Rises less ys → SameElements xs ys → xs ≡ ys
    rises_once [] [] h k e = refl
    rises_once [] (y ∷ ys) h k e = absurd (Memᴰ.not-nil ((e y).1 (Memᴰ.head refl)))
    rises_once (x ∷ xs) [] h k e = absurd (Memᴰ.not-nil ((e x).0 (Memᴰ.head refl)))
    rises_once (x ∷ xs) (y ∷ ys) h k e =
        let first = same_first x y xs ys h k e in
        let rest = rises_once xs ys h.1 k.1 (λ z. (same_behind x y xs ys first h (λ v. (e v).0) z, same_behind y x ys xs (sym first) k (λ v. (e v).1) z)) in
        λ i. first i ∷ rest i
