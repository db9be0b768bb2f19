-- Small lemmas on tests, on functions changed at one place, and on lists.
use Rattle.std.proofs.Common.{◌≡◌, ℕ, suc, ◌<◌, ◌≤◌, Bool, true, false, cond, not, ◌&&◌, ◌||◌, T, eqb, ◌⊎◌, List, [], ◌∷◌, ◌++◌, sym, refl, ap, subst, inl, inr, ⊎_elim, arith, eqb→eq, T_not}
use mathlib.Core.List.Memᴰ
use mathlib.Core.List.{Memᴰ}
use lib.Dec.{eqb_refl}

-- a choice by a test: show both
pub by_test {ℓ} : {A : Type ℓ} (P : A → Type 0) (b : Bool) {x y : A} → (T b → P x) → (T (not b) → P y) → P (cond b x y)
by_test P true f g = f tt
by_test P false f g = g tt

pub and_l : (a b : Bool) → T (a && b) → T a
and_l true b t = tt
and_l false b t = t

pub and_r : (a b : Bool) → T (a && b) → T b
and_r true b t = t
and_r false b t = absurd t

pub and_both : (a b : Bool) → T a → T b → T (a && b)
and_both true b s t = t
and_both false b s t = s

pub or_cases : (a b : Bool) → T (a || b) → T a ⊎ T b
or_cases true b t = inl tt
or_cases false b t = inr t

pub or_l : (a b : Bool) → T a → T (a || b)
or_l true b t = tt
or_l false b t = absurd t

pub or_r : (a b : Bool) → T b → T (a || b)
or_r true b t = tt
or_r false b t = t

pub either : (b : Bool) → T b ⊎ T (not b)
either true = inl tt
either false = inr tt

pub not_both : (a b : Bool) → T (not (a && b)) → T b → T (not a)
not_both true true n t = n
not_both true false n t = absurd t
not_both false b n t = tt

pub not_so : (b : Bool) → (T b → ⊥) → T (not b)
not_so true n = n tt
not_so false n = tt

pub neqb : (a b : ℕ) → T (not (eqb a b)) → a ≡ b → ⊥
neqb a b t p = T_not (eqb a b) t (subst (λ (k : ℕ). T (eqb a k)) p (eqb_refl a))

-- two constructors are never equal: of such an equation `cc` shows this one
pub never : {A : Type 0} → ◌≡◌ {A = ℕ} 0 1 → A
never x = absurd (no x)
  where
    no : ◌≡◌ {A = ℕ} 0 1 → ⊥
    no x = omega arith

-- one of the first k + 1 is one of the first k, or k
pub below_split : (i k : ℕ) → i < suc k → (i < k) ⊎ (i ≡ k)
below_split i k l = grind arith

pub le_split : (n m : ℕ) → n ≤ suc m → (n ≤ m) ⊎ (n ≡ suc m)
le_split n m l = grind arith

-- a family of facts over a function that was changed at i
pub at_case {ℓ} : {A : Type ℓ} (P : ℕ → A → Type 0) (i : ℕ) {a : A} {f : ℕ → A} → P i a → ((j : ℕ) → P j (f j)) → (j : ℕ) → P j (cond (eqb j i) a (f j))
at_case P i {a} {f} h k j = by_test (P j) (eqb j i) (λ t. subst (λ (n : ℕ). P n a) (sym (eqb→eq j i t)) h) (λ t. k j)

pub at2_case {ℓ} : {A : Type ℓ} (P : ℕ → ℕ → A → Type 0) (i p : ℕ) {a : A} {f : ℕ → ℕ → A} → P i p a → ((j q : ℕ) → P j q (f j q)) → (j q : ℕ) →
    P j q (cond (eqb j i && eqb q p) a (f j q))
at2_case P i p {a} {f} h k j q = by_test (P j q) (eqb j i && eqb q p)
    (λ t. subst (λ (n : ℕ). P n q a) (sym (eqb→eq j i (and_l (eqb j i) (eqb q p) t)))
    (subst (λ (n : ℕ). P i n a) (sym (eqb→eq q p (and_r (eqb j i) (eqb q p) t))) h))
    (λ t. k j q)

-- at the changed place
pub at_self : {A : Type 0} (Q : A → Type 0) (i : ℕ) (x y : A) → Q x → Q (cond (eqb i i) x y)
at_self Q i x y h = by_test Q (eqb i i) (λ _. h) (λ t. absurd (T_not (eqb i i) t (eqb_refl i)))

pub at2_self : {A : Type 0} (Q : A → Type 0) (i p : ℕ) (x y : A) → Q x → Q (cond (eqb i i && eqb p p) x y)
at2_self Q i p x y h = by_test Q (eqb i i && eqb p p) (λ _. h) (λ t. absurd (T_not (eqb i i && eqb p p) t (and_both (eqb i i) (eqb p p) (eqb_refl i) (eqb_refl p))))

module _ {A : Type 0} where
  -- a list with one more at its end
  pub snoc_cases : {y : A} (xs : List A) {x : A} → Memᴰ y (xs ++ (x ∷ [])) → Memᴰ y xs ⊎ (y ≡ x)
  snoc_cases xs m = ⊎_elim inl (λ n. inr (Memᴰ.eq_of_singleton n)) (Memᴰ.append_cases xs m)

  pub snoc_last : (xs : List A) (x : A) → Memᴰ x (xs ++ (x ∷ []))
  snoc_last xs x = Memᴰ.append_right xs (Memᴰ.head refl)

  pub snoc_old : {y : A} (xs : List A) (x : A) → Memᴰ y xs → Memᴰ y (xs ++ (x ∷ []))
  snoc_old xs x m = Memᴰ.append_left (x ∷ []) m

  -- a list with one taken out
  pub mem_drop : (x y : A) (front rest : List A) → Memᴰ y (front ++ (x ∷ rest)) → (y ≡ x) ⊎ Memᴰ y (front ++ rest)
  mem_drop x y [] rest m = Memᴰ.cases_cons m
  mem_drop x y (z ∷ front) rest m = ⊎_elim (λ e. inr (Memᴰ.head e)) (λ n. ⊎_elim inl (λ k. inr (Memᴰ.tail k)) (mem_drop x y front rest n)) (Memᴰ.cases_cons m)

  pub mem_more : (x y : A) (front rest : List A) → Memᴰ y (front ++ rest) → Memᴰ y (front ++ (x ∷ rest))
  mem_more x y [] rest m = Memᴰ.tail m
  mem_more x y (z ∷ front) rest m = ⊎_elim (λ e. Memᴰ.head e) (λ n. Memᴰ.tail (mem_more x y front rest n)) (Memᴰ.cases_cons m)

  pub mem_split : (x : A) (xs : List A) → Memᴰ x xs → (front : List A) × (rest : List A) × (xs ≡ front ++ (x ∷ rest))
  mem_split x [] m = elim m [ ]
  mem_split x (y ∷ ys) m = go (Memᴰ.cases_cons m) (mem_split x ys)
    where
      go : (x ≡ y) ⊎ Memᴰ x ys → (Memᴰ x ys → (front : List A) × (rest : List A) × (ys ≡ front ++ (x ∷ rest))) → (front : List A) × (rest : List A) × (y ∷ ys ≡ front ++ (x ∷ rest))
      go (inl e) f = ([], ys, ap (λ z. z ∷ ys) (sym e))
      go (inr n) f = let z = f n in (y ∷ z.0, z.1, ap (λ zs. y ∷ zs) z.2)
