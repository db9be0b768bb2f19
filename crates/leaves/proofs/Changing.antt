-- The changes of the fields from f on.
use Rattle.std.proofs.Common.{◌≡◌, ℕ, ◌+◌, ◌<◌, ◌≤◌, cond, eqb, List, [], ◌∷◌, ◌++◌, length, get_or, drop, sym, ap, ◌∙◌}
use Rattle.std.proofs.lemmas.List.{drop_more, drop_all, append-nil, append_assoc}
use Rattle.std.proofs.lemmas.Bool.{cond-true, cond-false, eq-eqb, ne_eqb}
use Rattle.packet.specs.Packet.{Packet}
use Rattle.packet.specs.Table.{Setting}
use Rattle.prescribed.specs.Table.{changes}

-- one field further on
module _ (p q : Packet) (i : ℕ) (lp : i < length p) (lq : i < length q) where
  abbrev rest : ℕ → List Setting
  rest f = changes f (drop f p) (drop f q)

  one_field : rest i ≡ cond (eqb (get_or p i 0) (get_or q i 0)) (rest (i + 1)) (record { at = i; value = get_or q i 0 } ∷ rest (i + 1))
  unfolding changes
  one_field = λ k. changes i (drop_more p i 0 lp k) (drop_more q i 0 lq k)

  pub field_kept : (out : List Setting) → get_or p i 0 ≡ get_or q i 0 → out ++ rest i ≡ out ++ rest (i + 1)
  field_kept out e = ap (λ l. out ++ l) (one_field ∙ cond-true _ _ _ (eq-eqb _ _ e))

  pub field_changed : (out : List Setting) → (get_or p i 0 ≡ get_or q i 0 → ⊥) → out ++ rest i ≡ (out ++ record { at = i; value = get_or q i 0 } ∷ []) ++ rest (i + 1)
  field_changed out ne = ap (λ l. out ++ l) (one_field ∙ cond-false _ _ _ (ne_eqb _ _ ne)) ∙ sym (append_assoc out (record { at = i; value = get_or q i 0 } ∷ []) (rest (i + 1)))

pub fields_all : (p q : Packet) (i : ℕ) (out : List Setting) → length p ≤ i → length q ≤ i → out ++ changes i (drop i p) (drop i q) ≡ out
unfolding changes
fields_all p q i out lp lq = (λ k. out ++ changes i (drop_all i p lp k) (drop_all i q lq k)) ∙ append-nil out
