-- The prescribed table gives every packet the copies that the policy gives it.
use Rattle.std.proofs.Common.{◌≡◌, true, false, cond, ◌||◌, ◌⊎◌, List, [], ◌∷◌, ◌++◌, length, sym, refl, ap, ◌∙◌, subst, inl, inr, ⊎_elim}
use mathlib.Core.List.Memᴰ
use mathlib.Core.List.{Memᴰ}
use Rattle.std.proofs.lemmas.Bool.{cases_Bool, cond_both, cond-true, cond-false, or_left, and_from, and_left, and_right}
use Rattle.packet.specs.Packet.{Packet, SameSet}
use Rattle.packet.specs.Policy.{Policy, copies}
use Rattle.packet.specs.Table.{Want, Setting, Table, meets, meets_all, outputs, decided, sent}
use Rattle.packet.proofs.Sets.{same_set_then, once_same_set}
use Rattle.prescribed.specs.Table.{tested_in, pairs_of, is_known, without, same_list, same_rule, joined, table_from, trim_to, trim, whole_table, table_of}
use Rattle.prescribed.specs.Right.{AlwaysRight}
use Rattle.prescribed.proofs.Orders.{pairs_tested}
use Rattle.prescribed.proofs.Leaf.{leaf_right}
use Rattle.prescribed.proofs.Same.{compares_lists, compares_rules}
use Rattle.prescribed.proofs.Asks.{is_known_append, is_known_last, AllAsk, table_asks, met, meets_all_append, none_met, without_decided, without_met, met_append, decided_append}

-- some rule of the table is met, and the first that is gives the packet's copies
record Serves (a : Policy) (p : Packet) (t : Table) : Type 0 where
  found : met t p ≡ true
  right : SameSet (outputs (decided t p) p) (copies a p)

module _ (a : Policy) (p : Packet) where
  serves_like : (s t : Table) → met t p ≡ met s p → decided t p ≡ decided s p → Serves a p s → Serves a p t
  serves_like s t e d h = record { found = e ∙ h.found; right = subst (λ o. SameSet (outputs o p) (copies a p)) (sym d) h.right }

  serves_first : (s t : Table) → Serves a p s → Serves a p (s ++ t)
  serves_first s t h =
      serves_like s (s ++ t) (met_append s t p ∙ or_left _ _ h.found ∙ sym h.found) (decided_append s t p ∙ cond-true _ _ _ h.found) h

  serves_second : (s t : Table) → met s p ≡ false → Serves a p t → Serves a p (s ++ t)
  serves_second s t e h =
      serves_like t (s ++ t) (met_append s t p ∙ ap (λ b. b || met t p) e) (decided_append s t p ∙ cond-false _ _ _ e) h

  -- Y for a packet that has the value at the field, N for one that has not
  joined_yes : (known : List Want) (w : Want) (y n : Table) → meets_all (known ++ w ∷ []) p ≡ true → is_known w.at (known ++ w ∷ []) ≡ true →
      AllAsk (known ++ w ∷ []) y → Serves a p y → Serves a p (joined w.at y n)
  joined_yes known w y n fits has asks h =
      cond_both (same_list same_rule (without w.at y) n) n (y ++ n) (Serves a p)
      (λ e.
      let same = (compares_lists same_rule compares_rules (without w.at y) n).0 e in
      subst (Serves a p) same
      (serves_like y (without w.at y) (without_met (known ++ w ∷ []) w.at has p fits y asks) (without_decided (known ++ w ∷ []) w.at has p fits y asks) h))
      (λ e. serves_first y n h)

  joined_no : (known : List Want) (w : Want) (y n : Table) → meets_all (known ++ w ∷ []) p ≡ false → AllAsk (known ++ w ∷ []) y → Serves a p n → Serves a p (joined w.at y n)
  joined_no known w y n misses asks h =
      cond_both (same_list same_rule (without w.at y) n) n (y ++ n) (Serves a p) (λ e. h) (λ e. serves_second y n (none_met (known ++ w ∷ []) p misses y asks) h)

  -- every pair that is tested is among those that are left, or its field is known, or the packet does not have the value
  abbrev Passed : List Want → List Want → Type 0
  Passed ws known = (v : Want) → Memᴰ v (tested_in a) → Memᴰ v ws ⊎ ((is_known v.at known ≡ true) ⊎ (meets v p ≡ false))

  passed_one : (w : Want) (ws known later : List Want) → ((v : Want) → is_known v.at known ≡ true → is_known v.at later ≡ true) →
      (is_known w.at later ≡ true) ⊎ (meets w p ≡ false) → Passed (w ∷ ws) known → Passed ws later
  passed_one w ws known later grows now h v m =
      ⊎_elim
      (λ k. ⊎_elim
      (λ e. inr (subst (λ u. (is_known u.at later ≡ true) ⊎ (meets u p ≡ false)) (sym e) now))
      (λ n. inl n)
      (Memᴰ.cases_cons k))
      (λ k. inr (⊎_elim (λ e. inl (grows v e)) (λ e. inr e) k))
      (h v m)

  serves : length p ≡ 8 → (ws known : List Want) → meets_all known p ≡ true → Passed ws known → Serves a p (table_from a ws known)
  unfolding table_from met decided meets_all
  serves eight [] known fits h =
      record {
        found = or_left _ _ fits;
        right = subst (λ o. SameSet (outputs o p) (copies a p)) (sym (cond-true _ _ _ fits))
            (leaf_right a known p eight fits (λ w m. ⊎_elim (λ k. elim k [ ]) (λ k. k) (h w m)));
      }
  serves eight (w ∷ ws) known fits h =
      let both = known ++ w ∷ [] in
      let y = table_from a ws both in
      let n = table_from a ws known in
      let has = is_known_last known w in
      let grown = meets_all_append known (w ∷ []) p in
      cond_both (is_known w.at known) n (joined w.at y n) (Serves a p)
      (λ k. serves eight ws known fits (passed_one w ws known known (λ v e. e) (inl k) h))
      (λ k. ⊎_elim
      (λ t.
      let all = grown ∙ and_from _ _ fits (and_from _ _ t refl) in
      joined_yes known w y n all has (table_asks a ws both)
      (serves eight ws both all (passed_one w ws known both (λ v e. is_known_append v.at known (w ∷ []) ∙ or_left _ _ e) (inl has) h)))
      (λ t.
      joined_no known w y n (grown ∙ and_right (meets_all known p) _ (and_left _ _ t)) (table_asks a ws both)
      (serves eight ws known fits (passed_one w ws known known (λ v e. e) (inr t) h)))
      (cases_Bool (meets w p)))

-- the rules that are left out had no outs
trim_to_decided : (wants : List Want) (outs : List (List Setting)) (t : Table) (p : Packet) →
    decided (trim_to (record { wants = wants; outs = outs }) t) p ≡ cond (meets_all wants p) outs (decided t p)
unfolding decided
trim_to_decided wants outs (q ∷ qs) p = refl
trim_to_decided wants (o ∷ os) [] p = refl
trim_to_decided wants [] [] p = elim (meets_all wants p) as (λ b. ◌≡◌ {A = List (List Setting)} [] (cond b [] [])) [ true ↦ refl | false ↦ refl ]

pub trim_decided : (t : Table) (p : Packet) → decided (trim t) p ≡ decided t p
unfolding decided trim
trim_decided [] p = refl
trim_decided (r ∷ rs) p =
    trim_to_decided r.wants r.outs (trim rs) p ∙ ap (λ o. cond (meets_all r.wants p) r.outs o) (trim_decided rs p)

pub always_right : AlwaysRight
unfolding meets_all
always_right a p is =
    let h = serves a p is.eight (pairs_of a) [] refl (λ v m. inl ((pairs_tested a v).1 m)) in
    same_set_then (sent (table_of a) p) (outputs (decided (table_of a) p) p) (copies a p) (once_same_set (outputs (decided (table_of a) p) p))
    (subst (λ o. SameSet (outputs o p) (copies a p)) (sym (trim_decided (whole_table a) p)) h.right)
