-- How many leaves and how many rules a table has.
use Rattle.std.proofs.Common.{◌≡◌, ℕ, zero, suc, ◌+◌, ◌*◌, ◌<◌, ◌≤◌, true, false, cond, ◌||◌, eqb, List, [], ◌∷◌, ◌++◌, length, sym, refl, ap, ◌∙◌, subst, ⊎_elim, add-mul, add_comm, mul-one, mul-add, arith, length-append}
use Rattle.std.specs.List.{AllByRecursion}
use Rattle.std.proofs.lemmas.Bool.{cases_Bool, cases_eq, cond_both, cond-true, cond-false, eq-eqb, ne_eqb}
use Rattle.packet.specs.Policy.{Policy}
use Rattle.packet.specs.Table.{Want, Setting, Table}
use Rattle.prescribed.specs.Order.{less_want}
use Rattle.prescribed.specs.Table.{tested_in, pairs_of, is_known, without, same_list, same_rule, joined, table_from, trim_to, trim}
use Rattle.prescribed.specs.Fit.{values_of, product, leaves, ProductCounts}
use Rattle.prescribed.proofs.Rising.{rising_all}
use Rattle.prescribed.proofs.Asks.{is_known_append, is_known_last}

pub length_joined : (f : ℕ) (y n : Table) → length (joined f y n) ≤ length y + length n
length_joined f y n =
    cond_both (same_list same_rule (without f y) n) n (y ++ n) (λ t. length t ≤ length y + length n) (λ e. omega arith) (λ e. omega (arith, length-append y n))

pub length_table_from : (a : Policy) (ws known : List Want) → length (table_from a ws known) ≤ leaves ws known
unfolding table_from leaves
length_table_from a [] known = omega arith
length_table_from a (w ∷ ws) known =
    let y = table_from a ws (known ++ w ∷ []) in
    let n = table_from a ws known in
    elim (is_known w.at known) as (λ b. length (cond b n (joined w.at y n)) ≤ cond b (leaves ws known) (leaves ws (known ++ w ∷ []) + leaves ws known)) [
      | true ↦ length_table_from a ws known
      | false ↦ omega (arith, length_joined w.at y n, length_table_from a ws (known ++ w ∷ []), length_table_from a ws known)
    ]

length_trim_to : (wants : List Want) (outs : List (List Setting)) (t : Table) → length (trim_to (record { wants = wants; outs = outs }) t) ≤ suc (length t)
length_trim_to wants outs (q ∷ qs) = omega arith
length_trim_to wants (o ∷ os) [] = omega arith
length_trim_to wants [] [] = omega arith

pub length_trim : (t : Table) → length (trim t) ≤ length t
unfolding trim
length_trim [] = omega arith
length_trim (r ∷ rs) = omega (arith, length_trim_to r.wants r.outs (trim rs), length_trim rs)

-- how many ways there are to go on at the field f
unfoldable ways : ℕ → List Want → List Want → ℕ
ways f known ws = cond (is_known f known) 1 (values_of f ws)

-- the product of those of k fields from f on
unfoldable over : ℕ → ℕ → List Want → List Want → ℕ
over zero f known ws = 1
over (suc k) f known ws = ways f known ws * over k (f + 1) known ws

over_same : (k f : ℕ) (known later ws more : List Want) → ((g : ℕ) → f ≤ g → ways g known ws ≡ ways g later more) → over k f known ws ≡ over k f later more
unfolding over
over_same zero f known later ws more h = refl
over_same (suc k) f known later ws more h = λ i. h f (omega arith) i * over_same k (f + 1) known later ws more (λ g le. h g (omega arith)) i

module _ (w : Want) (known ws : List Want) where
  -- a pair of another field changes nothing
  ways_other : (g : ℕ) → (w.at ≡ g → ⊥) → ways g known (w ∷ ws) ≡ ways g known ws
  unfolding ways values_of
  ways_other g ne = ap (λ x. cond (is_known g known) 1 x) (cond-false (eqb w.at g) _ _ (ne_eqb w.at g ne))

  ways_later : (g : ℕ) → (w.at ≡ g → ⊥) → ways g (known ++ w ∷ []) ws ≡ ways g known ws
  unfolding ways is_known
  ways_later g ne =
      ap (λ b. cond b 1 (values_of g ws))
      (is_known_append g known (w ∷ []) ∙ ap (λ b. is_known g known || (b || false)) (ne_eqb w.at g ne)
      ∙ elim (is_known g known) as (λ b. (b || false) ≡ b) [ true ↦ refl | false ↦ refl ])

  ways_known : is_known w.at known ≡ true → (g : ℕ) → ways g known (w ∷ ws) ≡ ways g known ws
  unfolding ways
  ways_known h g =
      ⊎_elim
      (λ e. let t = ap (λ f. is_known f known) (sym e) ∙ h in cond-true _ _ _ t ∙ sym (cond-true _ _ _ t))
      (λ ne. ways_other g ne)
      (cases_eq w.at g)

  -- at the pair's own field: one way with the value, and those without it
  module _ (new : is_known w.at known ≡ false) where
    ways_split : ways w.at known (w ∷ ws) ≡ ways w.at known ws + 1
    unfolding ways values_of
    ways_split = cond-false _ _ _ new ∙ cond-true _ _ _ (eq-eqb w.at w.at refl) ∙ ap (λ x. x + 1) (sym (cond-false _ _ _ new))

    ways_one : ways w.at (known ++ w ∷ []) ws ≡ 1
    unfolding ways
    ways_one = cond-true _ _ _ (is_known_last known w)

    over_split : (k f : ℕ) → f ≤ w.at → w.at < f + k → over k f known (w ∷ ws) ≡ over k f (known ++ w ∷ []) ws + over k f known ws
    unfolding over
    over_split zero f le lt = absurd (omega arith)
    over_split (suc k) f le lt =
        ⊎_elim
        (λ e.
        let r = over k (f + 1) known ws in
        let pair = over_same k (f + 1) known known (w ∷ ws) ws (λ g gt. ways_other g (λ d. omega arith)) in
        let later = over_same k (f + 1) (known ++ w ∷ []) known ws ws (λ g gt. ways_later g (λ d. omega arith)) in
        let v = ways f known ws in
        (λ i. subst (λ g. ways g known (w ∷ ws) ≡ ways g known ws + 1) e ways_split i * pair i)
        ∙ add-mul v 1 r ∙ add_comm (v * r) (1 * r)
        ∙ sym (λ i. subst (λ g. ways g (known ++ w ∷ []) ws ≡ 1) e ways_one i * later i + v * r))
        (λ ne.
        (λ i. ways_other f ne i * over_split k (f + 1) (omega arith) (omega arith) i)
        ∙ mul-add (ways f known ws) (over k (f + 1) (known ++ w ∷ []) ws) (over k (f + 1) known ws)
        ∙ ap (λ c. c * over k (f + 1) (known ++ w ∷ []) ws + ways f known ws * over k (f + 1) known ws) (sym (ways_later f ne)))
        (cases_eq w.at f)

over_none : (k f : ℕ) (known : List Want) → over k f known [] ≡ 1
unfolding over ways values_of
over_none zero f known = refl
over_none (suc k) f known =
    λ i. cond_both (is_known f known) 1 1 (λ v. v ≡ 1) (λ e. refl) (λ e. refl) i * over_none k (f + 1) known i

leaves_over : (ws known : List Want) → AllByRecursion (λ w. w.at < 8) ws → leaves ws known ≡ over 8 0 known ws
unfolding leaves
leaves_over [] known h = sym (over_none 8 0 known)
leaves_over (w ∷ ws) known h =
    let n = leaves_over ws known h.1 in
    ⊎_elim
    (λ k. cond-true _ _ _ k ∙ n ∙ sym (over_same 8 0 known known (w ∷ ws) ws (λ g le. ways_known w known ws k g)))
    (λ k.
    cond-false _ _ _ k ∙ (λ i. leaves_over ws (known ++ w ∷ []) h.1 i + n i)
    ∙ sym (over_split w known ws k 8 0 (omega arith) (omega (arith, h.0))))
    (cases_Bool (is_known w.at known))

over_product : (ws : List Want) → over 8 0 [] ws ≡ product ws
unfolding over ways is_known
over_product ws = simp mul-one

pub leaves_product : (ws : List Want) → AllByRecursion (λ w. w.at < 8) ws → leaves ws [] ≡ product ws
leaves_product ws h = leaves_over ws [] h ∙ over_product ws

pub product_counts : ProductCounts
product_counts a h =
    let e = leaves_product (pairs_of a) (rising_all less_want (λ w. w.at < 8) (tested_in a) h) in
    (e, omega (arith, length_table_from a (pairs_of a) [], e))
