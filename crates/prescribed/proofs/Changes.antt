-- Where the changes that lead from one packet to another are made in a third.
use Rattle.std.proofs.Common.{◌≡◌, ℕ, zero, suc, ◌+◌, ◌<◌, ◌≤◌, true, false, cond, eqb, List, [], ◌∷◌, length, get_or, set, refl, ap, ◌∙◌, arith, length-set}
use Rattle.std.proofs.lemmas.List.{get_or-set_same, get_or-set_other, ext_get_or}
use Rattle.std.proofs.lemmas.Bool.{cond_both, eqb-true}
use Rattle.packet.specs.Packet.{Packet, field, put}
use Rattle.packet.specs.Table.{Setting, set_all}
use Rattle.prescribed.specs.Table.{changes}

pub length_set_all : (ss : List Setting) (p : Packet) → length (set_all ss p) ≡ length p
unfolding set_all
length_set_all [] p = refl
length_set_all (s ∷ ss) p = length_set_all ss (put s.at s.value p) ∙ length-set p s.at s.value

-- the fields in front of the first that was compared are as they were
changes_below : (xs ys p : Packet) (n g : ℕ) → g < n → field g (set_all (changes n xs ys) p) ≡ field g p
unfolding changes set_all
changes_below [] [] p n g lt = refl
changes_below [] (y ∷ ys) p n g lt = refl
changes_below (x ∷ xs) [] p n g lt = refl
changes_below (x ∷ xs) (y ∷ ys) p n g lt =
    elim (eqb x y) as (λ b. field g (set_all (cond b (changes (n + 1) xs ys) (record { at = n; value = y } ∷ changes (n + 1) xs ys)) p) ≡ field g p) [
      | true ↦ changes_below xs ys p (n + 1) g (omega arith)
      | false ↦ changes_below xs ys (put n y p) (n + 1) g (omega arith) ∙ get_or-set_other p n g y 0 (λ e. omega arith)
    ]

-- a field that was compared is as it was where the two have the same value, else it has the second's
pub changes_at : (xs ys p : Packet) (m n g : ℕ) → m ≡ n + g → length xs ≡ length ys → n + length xs ≤ length p → g < length xs →
    field m (set_all (changes n xs ys) p) ≡ cond (eqb (get_or xs g 0) (get_or ys g 0)) (field m p) (get_or ys g 0)
unfolding changes set_all
changes_at [] [] p m n g e l h lt = absurd (omega arith)
changes_at [] (y ∷ ys) p m n g e l h lt = absurd (omega arith)
changes_at (x ∷ xs) [] p m n g e l h lt = absurd (omega arith)
changes_at (x ∷ xs) (y ∷ ys) p m n zero e l h lt =
    elim (eqb x y) as (λ b. field m (set_all (cond b (changes (n + 1) xs ys) (record { at = n; value = y } ∷ changes (n + 1) xs ys)) p) ≡ cond b (field m p) y) [
      | true ↦ changes_below xs ys p (n + 1) m (omega arith)
      | false ↦
          let here : m ≡ n = omega arith in
          changes_below xs ys (put n y p) (n + 1) m (omega arith) ∙ ap (λ k. get_or (set p n y) k 0) here ∙ get_or-set_same p n y 0 (omega arith)
    ]
changes_at (x ∷ xs) (y ∷ ys) p m n (suc g) e l h lt =
    let rest : ℕ → ℕ = λ v. cond (eqb (get_or xs g 0) (get_or ys g 0)) v (get_or ys g 0) in
    elim (eqb x y) as (λ b. field m (set_all (cond b (changes (n + 1) xs ys) (record { at = n; value = y } ∷ changes (n + 1) xs ys)) p) ≡ rest (field m p)) [
      | true ↦ changes_at xs ys p m (n + 1) g (omega arith) (omega arith) (omega arith) (omega arith)
      | false ↦
          changes_at xs ys (put n y p) m (n + 1) g (omega arith) (omega arith) (omega (arith, length-set p n y)) (omega arith)
          ∙ ap rest (get_or-set_other p n m y 0 (λ d. omega arith))
    ]

-- made in the first of the two, they give the second
pub changes_made : (r s : Packet) → length r ≡ length s → set_all (changes 0 r s) r ≡ s
changes_made r s e =
    ext_get_or 0 (set_all (changes 0 r s) r) s (length_set_all (changes 0 r s) r ∙ e)
    (λ g below.
    changes_at r s r g 0 g (omega arith) e (omega arith) (omega (arith, length_set_all (changes 0 r s) r))
    ∙ cond_both (eqb (field g r) (field g s)) (field g r) (field g s) (λ v. v ≡ field g s) (eqb-true (field g r) (field g s)) (λ t. refl))
