-- What the rules of a table want: what is known, and then values of fields that are not known.
use Rattle.std.proofs.Common.{◌≡◌, ℕ, Bool, true, false, cond, ◌&&◌, ◌||◌, eqb, List, [], ◌∷◌, ◌++◌, sym, refl, ap, ◌∙◌}
use Rattle.std.specs.List.{AllByRecursion}
use Rattle.std.proofs.lemmas.List.{append-nil, append_assoc}
use Rattle.std.proofs.ByRecursion.{All-append, All-weaker}
use Rattle.std.proofs.lemmas.Bool.{or_left, or_right, eq-eqb, cond_both, cond-false, both_ways, or_parts, or_from, and_parts, and_from, ne_eqb}
use Rattle.packet.specs.Packet.{Packet}
use Rattle.packet.specs.Policy.{Policy}
use Rattle.packet.specs.Table.{Want, Table, meets, meets_all, decided}
use Rattle.prescribed.specs.Table.{is_known, drop_field, without, same_list, same_rule, table_from}

pub is_known_append : (f : ℕ) (vs ws : List Want) → is_known f (vs ++ ws) ≡ (is_known f vs || is_known f ws)
unfolding is_known
is_known_append f [] ws = refl
is_known_append f (v ∷ vs) ws =
    elim (eqb v.at f) as (λ b. (b || is_known f (vs ++ ws)) ≡ ((b || is_known f vs) || is_known f ws)) [ true ↦ refl | false ↦ is_known_append f vs ws ]

pub is_known_last : (known : List Want) (w : Want) → is_known w.at (known ++ w ∷ []) ≡ true
unfolding is_known
is_known_last known w = is_known_append w.at known (w ∷ []) ∙ or_right (is_known w.at known) _ (or_left _ _ (eq-eqb w.at w.at refl))

-- wants that begin with what is known and go on with other fields
pub record Asks (known wants : List Want) : Type 0 where
  pub more : List Want
  pub whole : wants ≡ known ++ more
  pub new : AllByRecursion (λ w. is_known w.at known ≡ false) more

abbrev pub AllAsk : List Want → Table → Type 0
AllAsk known t = AllByRecursion (λ r. Asks known r.wants) t

asks_earlier : (known : List Want) (w : Want) (wants : List Want) → is_known w.at known ≡ false → Asks (known ++ w ∷ []) wants → Asks known wants
asks_earlier known w wants h k =
    record {
      more = w ∷ k.more;
      whole = k.whole ∙ append_assoc known (w ∷ []) k.more;
      new = (
        h,
        All-weaker _ (λ v. is_known v.at known ≡ false) (λ v e. (or_parts (is_known v.at known) _ (sym (is_known_append v.at known (w ∷ [])) ∙ e)).0) k.more k.new,
      );
    }

pub table_asks : (a : Policy) (ws known : List Want) → AllAsk known (table_from a ws known)
unfolding table_from
table_asks a [] known = (record { more = []; whole = sym (append-nil known); new = tt }, tt)
table_asks a (w ∷ ws) known =
    let y = table_from a ws (known ++ w ∷ []) in
    let n = table_from a ws known in
    cond_both (is_known w.at known) n _ (AllAsk known) (λ h. table_asks a ws known)
    (λ h. cond_both (same_list same_rule (without w.at y) n) n (y ++ n) (AllAsk known) (λ e. table_asks a ws known)
    (λ e. All-append _ y n
    (All-weaker _ (λ r. Asks known r.wants) (λ r. asks_earlier known w r.wants h) y (table_asks a ws (known ++ w ∷ [])))
    (table_asks a ws known)))

-- some rule is met
unfoldable pub met : Table → Packet → Bool
met [] p = false
met (r ∷ rs) p = meets_all r.wants p || met rs p

pub meets_all_append : (vs ws : List Want) (p : Packet) → meets_all (vs ++ ws) p ≡ (meets_all vs p && meets_all ws p)
unfolding meets_all
meets_all_append [] ws p = refl
meets_all_append (v ∷ vs) ws p =
    elim (meets v p) as (λ b. (b && meets_all (vs ++ ws) p) ≡ ((b && meets_all vs p) && meets_all ws p)) [ true ↦ meets_all_append vs ws p | false ↦ refl ]

-- a packet that does not meet what is known meets no rule
pub none_met : (known : List Want) (p : Packet) → meets_all known p ≡ false → (t : Table) → AllAsk known t → met t p ≡ false
unfolding met
none_met known p h [] k = refl
none_met known p h (r ∷ rs) k =
    or_from (meets_all r.wants p) (met rs p)
    (ap (λ l. meets_all l p) k.0.whole ∙ meets_all_append known k.0.more p ∙ ap (λ b. b && meets_all k.0.more p) h)
    (none_met known p h rs k.1)

pub drop_field_append : (f : ℕ) (vs ws : List Want) → drop_field f (vs ++ ws) ≡ drop_field f vs ++ drop_field f ws
unfolding drop_field
drop_field_append f [] ws = refl
drop_field_append f (v ∷ vs) ws =
    elim (eqb v.at f) as (λ b. cond b (drop_field f (vs ++ ws)) (v ∷ drop_field f (vs ++ ws)) ≡ cond b (drop_field f vs) (v ∷ drop_field f vs) ++ drop_field f ws) [
      | true ↦ drop_field_append f vs ws
      | false ↦ ap (λ l. v ∷ l) (drop_field_append f vs ws)
    ]

drop_field_met : (f : ℕ) (ws : List Want) (p : Packet) → meets_all ws p ≡ true → meets_all (drop_field f ws) p ≡ true
unfolding drop_field meets_all
drop_field_met f [] p h = refl
drop_field_met f (w ∷ ws) p h =
    let k = and_parts (meets w p) (meets_all ws p) h in
    elim (eqb w.at f) as (λ b. meets_all (cond b (drop_field f ws) (w ∷ drop_field f ws)) p ≡ true) [
      | true ↦ drop_field_met f ws p k.1
      | false ↦ and_from (meets w p) _ k.0 (drop_field_met f ws p k.1)
    ]

module _ (known : List Want) (f : ℕ) (has : is_known f known ≡ true) where
  drop_field_new : (ws : List Want) → AllByRecursion (λ w. is_known w.at known ≡ false) ws → drop_field f ws ≡ ws
  unfolding drop_field
  drop_field_new [] h = refl
  drop_field_new (w ∷ ws) h =
      cond-false (eqb w.at f) _ _ (ne_eqb w.at f (λ e. both_ways (is_known f known) (ap (λ g. is_known g known) (sym e) ∙ h.0) has))
      ∙ ap (λ l. w ∷ l) (drop_field_new ws h.1)

  -- for a packet that meets what is known, the wants of a known field matter for nothing
  module _ (p : Packet) (fits : meets_all known p ≡ true) where
    drop_field_same : (wants : List Want) → Asks known wants → meets_all (drop_field f wants) p ≡ meets_all wants p
    drop_field_same wants k =
        ap (λ l. meets_all (drop_field f l) p) k.whole
        ∙ ap (λ l. meets_all l p) (drop_field_append f known k.more ∙ ap (λ l. drop_field f known ++ l) (drop_field_new k.more k.new))
        ∙ meets_all_append (drop_field f known) k.more p ∙ ap (λ b. b && meets_all k.more p) (drop_field_met f known p fits ∙ sym fits)
        ∙ sym (ap (λ l. meets_all l p) k.whole ∙ meets_all_append known k.more p)

    pub without_decided : (t : Table) → AllAsk known t → decided (without f t) p ≡ decided t p
    unfolding without decided
    without_decided [] k = refl
    without_decided (r ∷ rs) k = λ i. cond (drop_field_same r.wants k.0 i) r.outs (without_decided rs k.1 i)

    pub without_met : (t : Table) → AllAsk known t → met (without f t) p ≡ met t p
    unfolding without met
    without_met [] k = refl
    without_met (r ∷ rs) k = λ i. drop_field_same r.wants k.0 i || without_met rs k.1 i

-- where the first of two tables has a rule that is met it decides, else the second
pub met_append : (s t : Table) (p : Packet) → met (s ++ t) p ≡ (met s p || met t p)
unfolding met
met_append [] t p = refl
met_append (r ∷ rs) t p =
    elim (meets_all r.wants p) as (λ b. (b || met (rs ++ t) p) ≡ ((b || met rs p) || met t p)) [ true ↦ refl | false ↦ met_append rs t p ]

pub decided_append : (s t : Table) (p : Packet) → decided (s ++ t) p ≡ cond (met s p) (decided s p) (decided t p)
unfolding met decided
decided_append [] t p = refl
decided_append (r ∷ rs) t p =
    elim (meets_all r.wants p) as (λ b. cond b r.outs (decided (rs ++ t) p) ≡ cond (b || met rs p) (cond b r.outs (decided rs p)) (decided t p)) [
      | true ↦ refl
      | false ↦ decided_append rs t p
    ]
