-- The places of a plan to which no text has come.
use Rattle.std.proofs.Common.{◌≡◌, ℕ, zero, suc, List, [], ◌∷◌, ◌++◌, map, length, replicate, None, Option, take, sym, refl, ap, ◌∙◌}
use Rattle.std.specs.List.{FoldsTo}
use Rattle.plan.specs.declared.part.Part.{Part}
use Rattle.plan.specs.Views.{slot_of}

-- what calls gave that give no part
all_none : {F : Type 0} (R : F → Option Part → F → Type 0) → ((f : F) (x : Option Part) (g : F) → R f x g → x ≡ None) → (f : F) (xs : List (Option Part)) (last : F) → FoldsTo R f xs last →
    map slot_of xs ≡ replicate (length xs) None
all_none R gives f [] last h = refl
all_none R gives f (x ∷ xs) last h = ap (λ o. slot_of o ∷ map slot_of xs) (gives f x h.0 h.1) ∙ ap (λ l. None ∷ l) (all_none R gives h.0 xs last h.2)

none_taken : (m : ℕ) → ◌≡◌ {A = List (Option Part)} (take m []) []
none_taken zero = refl
none_taken (suc m) = refl

-- so many places, in a row that had none
pub empty_places : {F : Type 0} (R : F → Option Part → F → Type 0) → ((f : F) (x : Option Part) (g : F) → R f x g → x ≡ None) → (f : F) (old now xs : List (Option Part)) (last : F) (m n : ℕ) →
    old ≡ [] → now ≡ take m old ++ xs → length now ≡ n → FoldsTo R f xs last → map slot_of now ≡ replicate n None
empty_places R gives f old now xs last m n none is long h =
    let same : now ≡ xs = is ∙ ap (λ l. take m l ++ xs) none ∙ ap (λ l. l ++ xs) (none_taken m) in
    ap (map slot_of) same ∙ all_none R gives f xs last h ∙ ap (λ k. replicate k None) (sym (ap length same) ∙ long)
