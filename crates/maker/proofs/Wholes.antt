-- From the recursion to a whole text: where it begins, and what its answer says of the text.
use Rattle.std.proofs.Common.{◌≡◌, ℕ, zero, suc, ◌+◌, ◌*◌, ◌<◌, ◌≤◌, true, cond, ◌||◌, eqb, ltb, List, [], ◌∷◌, ◌++◌, length, take, drop, Some, None, Ok, Err, sym, ap, ◌∙◌, subst, ⊎_elim, arith}
use Rattle.std.specs.List.{AllWithin, AllByRecursion}
use Rattle.std.proofs.lemmas.List.{take-take, get_or_past}
use Rattle.std.proofs.lemmas.Bool.{cond-true, cond-false, or_left, or_right, or_from, or_cases, and_parts, ltb-true, eqb-true, le-ltb, lt-ltb, cases_lt}
use Rattle.octets.specs.declared.fault.Fault.{Fault}
use Rattle.octets.specs.Faults.{number}
use Rattle.packet.specs.Policy.{Policy}
use Rattle.packet.specs.Table as tables
use Rattle.prescribed.specs.Order.{less_want}
use Rattle.prescribed.specs.Table.{pairs_of, knowing, unnamed, whole_table, trim, table_of}
use Rattle.prescribed.specs.Fit.{product, leaves, crowded, long, fault_of}
use Rattle.prescribed.proofs.Rising.{Rises}
use Rattle.prescribed.proofs.Orders.{pairs_rise}
use Rattle.prescribed.proofs.Sizes.{leaves_product}
use Rattle.table.specs.Good.{Each, GoodWant, GoodRule}
use Rattle.table.specs.Words.{encode}
use Rattle.packet.specs.declared.pair.Pair.{Pair}
use Rattle.packet.specs.Pairs.{want_of}
use Rattle.leaves.specs.Pairs.{wants_of}
use Rattle.maker.specs.declared.known.Known.{Known}
use Rattle.maker.specs.declared.size.Size.{Size}
use Rattle.maker.specs.Knowing.{known_of}
use Rattle.maker.specs.Making.{rule_room, MadeOf}
use Rattle.maker.specs.Tasks.{field_at, Task}
use Rattle.maker.specs.End.{Ended}
use Rattle.maker.specs.Whole as whole
use Rattle.maker.proofs.Ends.{trim_part, trim_front}

-- pairs that are low
all_low : (ps : List Pair) → AllWithin (λ p. p.field ≤ 7) ps 0 (length ps) → AllByRecursion (λ w. w.at < 8) (wants_of ps)
all_low [] h = tt
all_low (p ∷ ps) h = (omega (arith, h 0 p (omega arith) (omega arith)), all_low ps (λ k d l u. h (suc k) d (omega arith) (omega arith)))

field_low : (ps : List Pair) → AllWithin (λ p. p.field ≤ 7) ps 0 (length ps) → (j : ℕ) → field_at ps j < 8
field_low ps h j =
    ⊎_elim
    (λ lt. omega (arith, h j (record { field = 0; value = 0 }) (omega arith) lt))
    (λ ge. let e = ap (λ p. p.field) (get_or_past ps j (record { field = 0; value = 0 }) ge) in omega (arith, e))
    (cases_lt j (length ps))

-- pairs that rise
less_fields : (p q : Pair) → less_want (want_of p) (want_of q) ≡ true → p.field ≤ q.field
less_fields p q h =
    ⊎_elim
    (λ l. omega (arith, ltb-true p.field q.field l))
    (λ b. omega (arith, eqb-true p.field q.field (and_parts (eqb p.field q.field) (ltb p.value q.value) b).0))
    (or_cases (ltb p.field q.field) _ h)

fields_rise : (ps : List Pair) → Rises less_want (wants_of ps) → (j : ℕ) → j + 1 < length ps → field_at ps j ≤ field_at ps (j + 1)
fields_rise [] h j lt = absurd (omega arith)
fields_rise (p ∷ []) h j lt = absurd (omega arith)
fields_rise (p ∷ (q ∷ ps)) h zero lt = less_fields p q h.0.0
fields_rise (p ∷ (q ∷ ps)) h (suc j) lt =
    let e : suc j + 1 ≡ suc (j + 1) = omega arith in
    subst (λ k. field_at (p ∷ (q ∷ ps)) (suc j) ≤ field_at (p ∷ (q ∷ ps)) k) (sym e) (fields_rise (q ∷ ps) h.1 j (omega arith))

module _ (a : Policy) (ps : List Pair) (pairs : wants_of ps ≡ pairs_of a) (k : Known) (none : known_of k ≡ []) where
  -- where the recursion begins
  pub first_task : AllWithin (λ p. p.field ≤ 7) ps 0 (length ps) → k.sample.fields ≡ unnamed a → (words : ℕ) → rule_room * product (wants_of ps) ≤ words → Task a ps 0 k words
  unfolding knowing
  first_task low sampled words room = record {
    order = record { low = field_low ps low; rise = fields_rise ps (subst (Rises less_want) (sym pairs) (pairs_rise a)) };
    count = record { most = λ lt. omega (arith, ap length none); fewer = λ lt lacks. omega (arith, ap length none) };
    low = subst (Each GoodWant) (sym none) tt;
    sample = sampled ∙ ap (λ l. knowing l (unnamed a)) (sym none);
    room = omega (arith, room, ap (λ l. leaves (wants_of ps) l) none, leaves_product (wants_of ps) (all_low ps low));
  }

  module _ (small : product (wants_of ps) ≤ 65536) where
    fits_five : fault_of a ≡ cond (crowded a (pairs_of a) []) 6 (cond (long a (pairs_of a) [] || ltb 2048 (length (table_of a))) 7 0)
    fits_five = cond-false _ _ _ (le-ltb 65536 (product (pairs_of a)) (omega (arith, small, ap product pairs)))

    at_start : (words : List ℕ) (r : _) → MadeOf a (wants_of (drop 0 ps)) (known_of k) words r → MadeOf a (pairs_of a) [] words r
    at_start words r h = subst (λ l. MadeOf a l [] words r) pairs (subst (λ l. MadeOf a (wants_of ps) l words r) none h)

    pub whole_crowded : (words : List ℕ) (f : Fault) → MadeOf a (wants_of (drop 0 ps)) (known_of k) words (Err f) → (number f ≡ fault_of a) × (0 < fault_of a)
    whole_crowded words f h =
        let m = at_start words (Err f) h in
        let six : fault_of a ≡ 6 = fits_five ∙ cond-true _ _ _ m.0 in
        (ap number m.1 ∙ sym six, omega (arith, six))

    pub whole_over : (words : List ℕ) → MadeOf a (wants_of (drop 0 ps)) (known_of k) words (Ok None) → (7 ≡ fault_of a) × (0 < fault_of a)
    whole_over words h =
        let m = at_start words (Ok None) h in
        let seven : fault_of a ≡ 7 = fits_five ∙ cond-false _ _ _ m.0 ∙ cond-true _ _ _ (or_left _ _ m.1) in
        (sym seven, omega (arith, seven))

    -- the table was made: what is left of it when its end was found
    module _ (words : List ℕ) (z : Size) (made : MadeOf a (wants_of (drop 0 ps)) (known_of k) words (Ok (Some z))) where
      pub whole_within : AllWithin (λ p. p.field ≤ 7) ps 0 (length ps) → z.words ≤ rule_room * product (wants_of ps)
      whole_within low = omega (arith, made.2, ap (λ l. leaves (wants_of ps) l) none, leaves_product (wants_of ps) (all_low ps low))

      pub whole_front : take z.words words ≡ encode (whole_table a)
      whole_front = (at_start words (Ok (Some z)) made).3.front

      pub whole_many : (left : Size) → Ended (whole_table a) left → 2048 < left.rules → (7 ≡ fault_of a) × (0 < fault_of a)
      whole_many left ended over =
          let h = at_start words (Ok (Some z)) made in
          let seven : fault_of a ≡ 7
          = fits_five ∙ cond-false _ _ _ h.0 ∙ cond-true _ _ _ (or_right (long a (pairs_of a) []) _ (lt-ltb 2048 (length (table_of a)) (omega (arith, over, ended.1)))) in
          (sym seven, omega (arith, seven))

      pub whole_table_lem : (left : Size) → Ended (whole_table a) left → left.rules ≤ 2048 → left.words ≤ z.words → z.words ≤ length words → whole.Table a words left.words
      whole_table_lem left ended few inside within =
          let h = at_start words (Ok (Some z)) made in
          let p = trim_part (whole_table a) in
          record {
            fits =
                fits_five ∙ cond-false _ _ _ h.0
                ∙ cond-false _ _ _ (or_from _ _ h.1 (le-ltb 2048 (length (table_of a)) (omega (arith, few, ended.1))));
            front =
                sym (take-take left.words z.words words inside) ∙ ap (take left.words) whole_front ∙ ap (λ s. take s (encode (whole_table a))) ended.0 ∙ trim_front (whole_table a);
            size = ended.0;
            within = omega (arith, inside, within);
            good = record { few = omega (arith, few, ended.1); rules = each_front (trim (whole_table a)) p.0 (subst (Each GoodRule) p.1 h.3.good) };
          }
        where
          each_front : (s t : tables.Table) → Each GoodRule (s ++ t) → Each GoodRule s
          each_front [] t h = tt
          each_front (r ∷ s) t h = (h.0, each_front s t h.1)
