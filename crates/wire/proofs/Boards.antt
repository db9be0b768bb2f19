-- A board that is changed at one place.
use Rattle.std.proofs.Common.{◌≡◌, ℕ, zero, suc, ◌<◌, cond, ◌&&◌, eqb, List, [], length, get_or, set, replicate, sym, refl, ap, ◌∙◌, ⊎_elim}
use Rattle.std.proofs.lemmas.List.{get_or-set_same, get_or-set_other}
use Rattle.std.proofs.lemmas.Bool.{cases_Bool, and_from, eqb-true, eqb-false, eq-eqb, cond-true, cond-false}
use Rattle.wire.specs.declared.board.Wire.{Wire}
use Rattle.wire.specs.declared.board.Wire.TheVariants.{Nothing}
use Rattle.wire.specs.Wires.{Wires, bare, put, wires_of}

get_same : {A : Type 0} (n k : ℕ) (x y : A) (P : A → Type 0) → P x → P y → P (get_or (replicate n x) k y)
get_same zero k x y P px py = py
get_same (suc n) zero x y P px py = px
get_same (suc n) (suc k) x y P px py = get_same n k x y P px py

pub bare_board : wires_of (record { wires = replicate 24 (replicate 32 Nothing) }) ≡ bare
bare_board z i p =
    get_same 24 i (replicate 32 Nothing) [] (λ ws. get_or ws p Nothing ≡ Nothing)
    (get_same 32 p Nothing Nothing (λ w. w ≡ Nothing) refl refl) refl z

pub put_here : (i p : ℕ) (x : Wire) (w : Wires) → put i p x w i p ≡ x
put_here i p x w = cond-true (eqb i i && eqb p p) x (w i p) (and_from (eqb i i) (eqb p p) (eq-eqb i i refl) (eq-eqb p p refl))

module _ (ws : List (List Wire)) (i p : ℕ) (x : Wire) (li : i < length ws) (lp : p < length (get_or ws i [])) where
  abbrev row : List Wire
  row = set (get_or ws i []) p x

  -- port q of switch i, and of another one
  on_row : (q : ℕ) → get_or row q Nothing ≡ cond (eqb q p) x (get_or (get_or ws i []) q Nothing)
  on_row q =
      ⊎_elim
      (λ t. ap (λ k. get_or row k Nothing) (eqb-true q p t) ∙ get_or-set_same (get_or ws i []) p x Nothing lp ∙ sym (cond-true (eqb q p) x _ t))
      (λ f. get_or-set_other (get_or ws i []) p q x Nothing (eqb-false q p f) ∙ sym (cond-false (eqb q p) x _ f)) (cases_Bool (eqb q p))

  changed : (j q : ℕ) → wires_of (record { wires = set ws i row }) j q ≡ put i p x (wires_of (record { wires = ws })) j q
  changed j q =
      ⊎_elim
      (λ t.
      let e : j ≡ i = eqb-true j i t in
      ap (λ r. get_or r q Nothing) (ap (λ k. get_or (set ws i row) k []) e ∙ get_or-set_same ws i row [] li) ∙ on_row q
      ∙ rw (t, e) refl)
      (λ f.
      ap (λ r. get_or r q Nothing) (get_or-set_other ws i j row [] (eqb-false j i f)) ∙ rw f refl) (cases_Bool (eqb j i))

  pub put_board : wires_of (record { wires = set ws i row }) ≡ put i p x (wires_of (record { wires = ws }))
  put_board z j q = changed j q z
