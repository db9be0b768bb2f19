-- The outs of a leaf give every packet of the leaf its copies.
use Rattle.std.proofs.Common.{◌≡◌, ℕ, ◌<◌, Bool, true, false, eqb, ◌⊎◌, List, [], ◌∷◌, ◌++◌, map, length, sym, refl, ap, ◌∙◌, subst, ⊎_elim, arith}
use mathlib.Core.List.Memᴰ
use mathlib.Core.List.{Memᴰ}
use Rattle.std.specs.List.{AllZip}
use Rattle.std.proofs.lemmas.List.{ext_get_or}
use Rattle.std.proofs.lemmas.Bool.{cases_Bool, cases_lt, cond_both, both_ways, eqb-true, eqb-false, ne_eqb}
use Rattle.packet.specs.Packet.{Packet, field, SameSet}
use Rattle.packet.specs.Policy.{Policy, copies}
use Rattle.packet.specs.Table.{Want, Setting, meets, meets_all, set_all, outputs}
use Rattle.prescribed.specs.Order.{rising, less_out}
use Rattle.prescribed.specs.Table.{tested_in, put_in, names, sample, changes, leaf, is_known}
use Rattle.prescribed.specs.Alike.{SameTests, Alike}
use Rattle.prescribed.proofs.Members.{SameElements, map_same}
use Rattle.prescribed.proofs.Rising.{rising_same}
use Rattle.prescribed.proofs.Orders.{out_ordered}
use Rattle.prescribed.proofs.Alike.{treated_alike}
use Rattle.prescribed.proofs.Free.{named}
use Rattle.prescribed.proofs.Changes.{length_set_all, changes_at}
use Rattle.prescribed.proofs.Sample.{length_sample, sample_unnamed, sample_past, sample_known}

-- the same outs give the same set of packets
outputs_map : (p : Packet) (os : List (List Setting)) → outputs os p ≡ map (λ o. set_all o p) os
unfolding outputs
outputs_map p [] = refl
outputs_map p (o ∷ os) = ap (λ l. set_all o p ∷ l) (outputs_map p os)

outputs_same : (p : Packet) (os ns : List (List Setting)) → SameElements os ns → SameSet (outputs os p) (outputs ns p)
outputs_same p os ns h =
    subst (λ l. SameSet l (outputs ns p)) (sym (outputs_map p os))
    (subst (SameSet (map (λ o. set_all o p) os)) (sym (outputs_map p ns)) (map_same (λ o. set_all o p) os ns h))

-- p is a packet of the leaf: it has the known values, and where nothing is known none that is tested
module _ (a : Policy) (known : List Want) (p : Packet) (eight : length p ≡ 8) (met : meets_all known p ≡ true)
    (rest : (w : Want) → Memᴰ w (tested_in a) → (is_known w.at known ≡ true) ⊎ (meets w p ≡ false)) where
  -- a value that is named is not one of the sample's own
  not_own : (w : Want) → Memᴰ w (tested_in a ++ put_in a) → w.at < 8 → is_known w.at known ≡ false → field w.at (sample a known) ≡ w.value → ⊥
  not_own w m lt h e =
      both_ways (names w.at w.value (tested_in a ++ put_in a))
      (ap (λ x. names w.at x (tested_in a ++ put_in a)) (sym e) ∙ sample_unnamed a known w.at lt h) (named w (tested_in a ++ put_in a) m)

  sample_tests : SameTests (tested_in a) p (sample a known)
  sample_tests w m =
      let at : ℕ → Bool = λ x. eqb x w.value in
      ⊎_elim
      (λ h. ap at (sym (sample_known a known p eight met w.at h)))
      (λ h. ⊎_elim
      (λ lt.
      ⊎_elim (λ k. absurd (both_ways (is_known w.at known) h k)) (λ k. k) (rest w m)
      ∙ sym (ne_eqb (field w.at (sample a known)) w.value (not_own w (Memᴰ.append_left (put_in a) m) lt h)))
      (λ le. ap at (sym (sample_past a known p eight w.at le)))
      (cases_lt w.at 8))
      (cases_Bool (is_known w.at known))

  -- a copy s of the sample, and the copy q of p that came like it
  module _ (q s : Packet) (k : Alike (put_in a) p (sample a known) q s) (g : ℕ) (lt : g < 8) where
    same_there : field g (sample a known) ≡ field g s → field g p ≡ field g q
    same_there e =
        ⊎_elim
        (λ h. sym h.0)
        (λ h. ⊎_elim
        (λ t. sym (sample_known a known p eight met g t) ∙ e ∙ sym h.0)
        (λ t. absurd (not_own (record { at = g; value = field g q }) (Memᴰ.append_right (tested_in a) h.1) lt t (e ∙ sym h.0)))
        (cases_Bool (is_known g known)))
        (k.at g)

    differs_there : (field g (sample a known) ≡ field g s → ⊥) → field g s ≡ field g q
    differs_there ne = ⊎_elim (λ h. absurd (ne (sym h.1))) (λ h. sym h.0) (k.at g)

  changed_back : (q s : Packet) → Alike (put_in a) p (sample a known) q s → set_all (changes 0 (sample a known) s) p ≡ q
  changed_back q s k =
      let r = sample a known in
      ext_get_or 0 (set_all (changes 0 r s) p) q (length_set_all (changes 0 r s) p ∙ eight ∙ sym k.eight.0)
      (λ g below.
      let lt : g < 8 = omega (arith, length_set_all (changes 0 r s) p) in
      changes_at r s p g 0 g (omega arith) (length_sample a known ∙ sym k.eight.1) (omega (arith, length_sample a known)) (omega (arith, length_sample a known))
      ∙ cond_both (eqb (field g r) (field g s)) (field g p) (field g s) (λ v. v ≡ field g q)
      (λ t. same_there q s k g lt (eqb-true (field g r) (field g s) t))
      (λ t. differs_there q s k g lt (eqb-false (field g r) (field g s) t)))

  outputs_back : (qs ss : List Packet) → AllZip (Alike (put_in a) p (sample a known)) qs ss → outputs (map (changes 0 (sample a known)) ss) p ≡ qs
  unfolding outputs
  outputs_back [] [] h = refl
  outputs_back [] (s ∷ ss) h = absurd h
  outputs_back (q ∷ qs) [] h = absurd h
  outputs_back (q ∷ qs) (s ∷ ss) h = λ i. changed_back q s h.0 i ∷ outputs_back qs ss h.1 i

  pub leaf_right : SameSet (outputs (leaf a known).outs p) (copies a p)
  leaf_right =
      let r = sample a known in
      let os = map (changes 0 r) (copies a r) in
      subst (SameSet (outputs (rising less_out os) p)) (outputs_back (copies a p) (copies a r) (treated_alike a p r eight (length_sample a known) sample_tests))
      (outputs_same p (rising less_out os) os (rising_same less_out out_ordered os))
