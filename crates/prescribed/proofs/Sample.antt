-- The sample of a leaf has the known values, and elsewhere values that the policy does not name.
use Rattle.std.proofs.Common.{◌≡◌, ℕ, zero, suc, ◌<◌, ◌≤◌, true, false, eqb, ◌⊎◌, List, [], ◌∷◌, ◌++◌, length, get_or, set, sym, refl, ap, ◌∙◌, inl, inr, ⊎_elim, arith, length-set}
use Rattle.std.proofs.lemmas.List.{get_or-set_same, get_or-set_other, get_or_past}
use Rattle.std.proofs.lemmas.Bool.{cases_eq, cases_lt, false≢true, and_parts, or_parts, or_cases, eqb-true, eqb-false}
use Rattle.packet.specs.Packet.{Packet, field, put}
use Rattle.packet.specs.Policy.{Policy}
use Rattle.packet.specs.Table.{Want, meets, meets_all}
use Rattle.prescribed.specs.Table.{tested_in, put_in, names, free, unnamed, knowing, sample, is_known}
use Rattle.prescribed.proofs.Free.{free_unnamed}

length_knowing : (ws : List Want) (u : Packet) → length (knowing ws u) ≡ length u
unfolding knowing
length_knowing [] u = refl
length_knowing (w ∷ ws) u = length_knowing ws (put w.at w.value u) ∙ length-set u w.at w.value

-- one pair more
pub knowing_push : (ws : List Want) (w : Want) (p : Packet) → knowing (ws ++ w ∷ []) p ≡ put w.at w.value (knowing ws p)
unfolding knowing
knowing_push [] w p = refl
knowing_push (v ∷ vs) w p = knowing_push vs w (put v.at v.value p)

-- what is not known stays as it is
knowing_other : (g : ℕ) (ws : List Want) (u : Packet) → is_known g ws ≡ false → field g (knowing ws u) ≡ field g u
unfolding knowing is_known
knowing_other g [] u h = refl
knowing_other g (w ∷ ws) u h =
    let k = or_parts (eqb w.at g) (is_known g ws) h in
    knowing_other g ws (put w.at w.value u) k.1 ∙ get_or-set_other u w.at g w.value 0 (λ e. eqb-false w.at g k.0 (sym e))

-- what is known is as in every packet that meets it
put_met : (p u : Packet) (w : Want) (g : ℕ) → length u ≡ length p → meets w p ≡ true → g ≡ w.at → field g (put w.at w.value u) ≡ field g p
put_met p u w g l h e =
    ⊎_elim
    (λ lt.
    ap (λ n. get_or (set u w.at w.value) n 0) e ∙ get_or-set_same u w.at w.value 0 lt ∙ sym (eqb-true (field w.at p) w.value h)
    ∙ ap (λ n. field n p) (sym e))
    (λ le.
    get_or_past (set u w.at w.value) g 0 (omega (arith, length-set u w.at w.value)) ∙ sym (get_or_past p g 0 (omega arith)))
    (cases_lt w.at (length u))

knowing_met : (p : Packet) (g : ℕ) (ws : List Want) (u : Packet) → length u ≡ length p → meets_all ws p ≡ true →
    (is_known g ws ≡ true) ⊎ (field g u ≡ field g p) → field g (knowing ws u) ≡ field g p
unfolding knowing is_known meets_all
knowing_met p g [] u l m h = ⊎_elim (λ k. absurd (false≢true k)) (λ e. e) h
knowing_met p g (w ∷ ws) u l m h =
    let both = and_parts (meets w p) (meets_all ws p) m in
    knowing_met p g ws (put w.at w.value u) (length-set u w.at w.value ∙ l) both.1
    (⊎_elim
    (λ e. inr (put_met p u w g l both.0 e))
    (λ ne. ⊎_elim
    (λ k. ⊎_elim (λ t. absurd (ne (sym (eqb-true w.at g t)))) (λ j. inl j) (or_cases (eqb w.at g) (is_known g ws) k))
    (λ e. inr (get_or-set_other u w.at g w.value 0 ne ∙ e))
    h)
    (cases_eq g w.at))

unnamed_free : (a : Policy) (g : ℕ) → g < 8 → field g (unnamed a) ≡ free g (tested_in a ++ put_in a)
unnamed_free a zero lt = refl
unnamed_free a (suc zero) lt = refl
unnamed_free a (suc (suc zero)) lt = refl
unnamed_free a (suc (suc (suc zero))) lt = refl
unnamed_free a (suc (suc (suc (suc zero)))) lt = refl
unnamed_free a (suc (suc (suc (suc (suc zero))))) lt = refl
unnamed_free a (suc (suc (suc (suc (suc (suc zero)))))) lt = refl
unnamed_free a (suc (suc (suc (suc (suc (suc (suc zero))))))) lt = refl
unnamed_free a (suc (suc (suc (suc (suc (suc (suc (suc g)))))))) lt = absurd (omega arith)

module _ (a : Policy) (known : List Want) where
  pub length_sample : length (sample a known) ≡ 8
  length_sample = length_knowing known (unnamed a)

  pub sample_unnamed : (g : ℕ) → g < 8 → is_known g known ≡ false → names g (field g (sample a known)) (tested_in a ++ put_in a) ≡ false
  sample_unnamed g lt h =
      ap (λ x. names g x (tested_in a ++ put_in a)) (knowing_other g known (unnamed a) h ∙ unnamed_free a g lt) ∙ free_unnamed g (tested_in a ++ put_in a)

  module _ (p : Packet) (eight : length p ≡ 8) where
    pub sample_past : (g : ℕ) → 8 ≤ g → field g (sample a known) ≡ field g p
    sample_past g le = get_or_past (sample a known) g 0 (omega (arith, length_sample)) ∙ sym (get_or_past p g 0 (omega arith))

    pub sample_known : meets_all known p ≡ true → (g : ℕ) → is_known g known ≡ true → field g (sample a known) ≡ field g p
    sample_known met g h = knowing_met p g known (unnamed a) (sym eight) met (inl h)
