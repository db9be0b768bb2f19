-- The elements of a list.
use Rattle.std.proofs.Common.{List, [], ◌∷◌, map, sym, subst, ⊎_elim}
use mathlib.Core.List.Memᴰ
use mathlib.Core.List.{Memᴰ}
use Rattle.std.specs.List.{AllByRecursion}

abbrev pub SameElements : {A : Type 0} → List A → List A → Type 0
SameElements {A} xs ys = (x : A) → (Memᴰ x xs → Memᴰ x ys) × (Memᴰ x ys → Memᴰ x xs)

pub all_member : {A : Type 0} (P : A → Type 0) (x : A) (xs : List A) → AllByRecursion P xs → Memᴰ x xs → P x
all_member P x [] h m = elim m [ ]
all_member P x (y ∷ ys) h m = ⊎_elim (λ e. subst P (sym e) h.0) (λ n. all_member P x ys h.1 n) (Memᴰ.cases_cons m)

pub map_same : {A B : Type 0} (f : A → B) (xs ys : List A) → SameElements xs ys → SameElements (map f xs) (map f ys)
map_same f xs ys h y = (
  λ m. let x = Memᴰ.of_map f xs m in Memᴰ.cast (sym x.2) (Memᴰ.map f ((h x.0).0 x.1)),
  λ m. let x = Memᴰ.of_map f ys m in Memᴰ.cast (sym x.2) (Memᴰ.map f ((h x.0).1 x.1)),
)
