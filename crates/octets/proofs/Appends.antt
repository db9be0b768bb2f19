-- A loop that appends what belongs to one element after the other, as its bytes.
use Rattle.std.proofs.Common.{◌≡◌, ℕ, ◌+◌, ◌<◌, ◌≤◌, List, ◌++◌, length, get_or, take, sym, ap, ◌∙◌}
use Rattle.std.specs.List.{flat_map}
use Rattle.std.proofs.lemmas.List.{flat_map_more, take_more, take_all}

module _ {X A : Type 0} (f : X → List A) (base : List A) (xs : List X) where
  pub appended_more : (before after : List A) (i : ℕ) (d : X) → i < length xs →
      before ≡ base ++ flat_map f (take i xs) → after ≡ before ++ f (get_or xs i d) → after ≡ base ++ flat_map f (take (i + 1) xs)
  appended_more before after i d lt was more =
      more ∙ ap (λ l. l ++ f (get_or xs i d)) was ∙ flat_map_more f base (take i xs) (get_or xs i d)
      ∙ ap (λ l. base ++ flat_map f l) (sym (take_more xs i d lt))

  pub appended_all : (after : List A) (i : ℕ) → length xs ≤ i → after ≡ base ++ flat_map f (take i xs) → after ≡ base ++ flat_map f xs
  appended_all after i le was = was ∙ ap (λ l. base ++ flat_map f l) (take_all i xs le)
