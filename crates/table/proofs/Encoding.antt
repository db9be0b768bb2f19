-- The words of a table read as the table, and sound words are the words of the table that stands in them.
use Rattle.std.proofs.Common.{◌≡◌, ℕ, zero, suc, ◌*◌, ◌≤◌, true, false, List, [], ◌∷◌, ◌++◌, length, map, take, drop, sym, refl, ap, ◌∙◌, arith}
use Rattle.std.specs.List.{flat_map}
use Rattle.std.proofs.Math.Seq.{take-append_seam, drop-append_seam}
use Rattle.std.proofs.lemmas.Bool.{and_parts, and_from, leb-true, ltb-true, lt-ltb, le-leb}
use Rattle.std.proofs.lemmas.List.{append_assoc, length-append, length-take-le, take-append-drop, drop_more}
use Rattle.packet.specs.Pairs.{want_of, setting_of}
use Rattle.packet.specs.Table.{Setting, Rule, Table}
use Rattle.packet.specs.declared.pair.Pair.{Pair}
use Rattle.table.specs.Good.{Each, GoodOut, GoodRule, ReadsBack, WritesBack}
use Rattle.table.specs.Words.{most_rules, number, pairs_of, wants_of, settings_of, few, past_few, outs_from, past_from, outs_at, past_outs, rule_at, past_rule, rules_from, are_pairs, few_in, outs_in_from, outs_in, rule_in, sound_from, want_words, setting_words, out_words, rule_words, encode}
use Rattle.table.proofs.Reading.{outs_length, rules_few}

unsound : {A : Type 0} → false ≡ true → A
unsound e = absurd (let z : ◌≡◌ {A = ℕ} 0 1 = cc in omega (arith, z))

-- Wants or settings: how one stands for a pair, and its words.
record Form {X : Type 0} (from : Pair → X) (words : X → List ℕ) : Type 0 where
  field : X → ℕ
  value : X → ℕ
  back : (x : X) → from (record { field = field x; value = value x }) ≡ x
  spelt : (x : X) → words x ≡ field x ∷ (value x ∷ [])
  forth : (p : Pair) → words (from p) ≡ p.field ∷ (p.value ∷ [])
  named : (p : Pair) → field (from p) ≡ p.field

abbrev wants : Form want_of want_words
wants = record { field = λ w. w.at; value = λ w. w.value; back = λ w. refl; spelt = λ w. refl; forth = λ p. refl; named = λ p. refl }

abbrev settings : Form setting_of setting_words
settings = record { field = λ s. s.at; value = λ s. s.value; back = λ s. refl; spelt = λ s. refl; forth = λ p. refl; named = λ p. refl }

module _ {X : Type 0} (from : Pair → X) (words : X → List ℕ) (form : Form from words) where
  pairs_long : (xs : List X) → length (flat_map words xs) ≡ 2 * length xs
  pairs_long [] = refl
  pairs_long (x ∷ xs) = omega (arith, length-append (words x) (flat_map words xs), ap length (form.spelt x), pairs_long xs)

  pairs_back : (xs : List X) → Each (λ x. form.field x ≤ 7) xs → (map from (pairs_of (flat_map words xs)) ≡ xs) × (are_pairs (flat_map words xs) ≡ true)
  unfolding pairs_of are_pairs
  pairs_back [] h = (refl, refl)
  pairs_back (x ∷ xs) h =
      let more = pairs_back xs h.1 in
      let is = ap (λ l. l ++ flat_map words xs) (form.spelt x) in (
        ap (λ l. map from (pairs_of l)) is ∙ (λ i. form.back x i ∷ more.0 i),
        ap are_pairs is ∙ and_from _ _ (le-leb (form.field x) 7 h.0) more.1,
      )

  record Written (ws : List ℕ) (xs : List X) (rest : List ℕ) : Type 0 where
    read : map from (pairs_of (few ws)) ≡ xs
    there : few_in ws ≡ true
    next : past_few ws ≡ rest

  few_back : (xs : List X) (rest : List ℕ) → length xs ≤ 8 → Each (λ x. form.field x ≤ 7) xs → Written (length xs ∷ (flat_map words xs ++ rest)) xs rest
  few_back xs rest short good =
      let long = pairs_long xs in
      let body = flat_map words xs in
      let b = pairs_back xs good in
      let mine : take (2 * length xs) (body ++ rest) ≡ body = ap (λ n. take n (body ++ rest)) (sym long) ∙ take-append_seam body rest in
      let fits : 2 * length xs ≤ length (body ++ rest) = omega (arith, long, length-append body rest) in
      record {
        read = ap (λ l. map from (pairs_of l)) mine ∙ b.0;
        there = and_from _ _ (lt-ltb 0 (suc (length (body ++ rest))) (omega arith)) (and_from _ _ (le-leb (length xs) 8 short) (and_from _ _ (le-leb _ _ fits) (ap are_pairs mine ∙ b.1)));
        next = ap (λ n. drop n (body ++ rest)) (sym long) ∙ drop-append_seam body rest;
      }

  pairs_forth : (ws : List ℕ) → are_pairs ws ≡ true →
      (flat_map words (map from (pairs_of ws)) ≡ ws) × Each (λ x. form.field x ≤ 7) (map from (pairs_of ws)) × (2 * length (map from (pairs_of ws)) ≡ length ws)
  unfolding pairs_of are_pairs
  pairs_forth [] h = (refl, tt, refl)
  pairs_forth (f ∷ []) h = unsound h
  pairs_forth (f ∷ (x ∷ ws)) h =
      let p = and_parts _ _ h in
      let more = pairs_forth ws p.1 in
      let one : Pair = record { field = f; value = x } in (
        ap (λ l. l ++ flat_map words (map from (pairs_of ws))) (form.forth one) ∙ ap (λ l. f ∷ (x ∷ l)) more.0,
        (omega (arith, form.named one, leb-true f 7 p.0), more.1),
        omega (arith, more.2),
      )

  record Read (ws : List ℕ) (xs : List X) : Type 0 where
    whole : ws ≡ (length xs ∷ flat_map words xs) ++ past_few ws
    short : length xs ≤ 8
    good : Each (λ x. form.field x ≤ 7) xs

  few_forth : (ws : List ℕ) → few_in ws ≡ true → Read ws (map from (pairs_of (few ws)))
  few_forth ws h =
      let a = and_parts _ _ h in
      let b = and_parts _ _ a.1 in
      let c = and_parts _ _ b.1 in
      let xs = map from (pairs_of (few ws)) in
      let p = pairs_forth (few ws) c.1 in
      let room : 2 * number ws ≤ length (drop 1 ws) = leb-true _ _ c.0 in
      let long : number ws ≡ length xs = omega (arith, p.2, length-take-le (2 * number ws) (drop 1 ws) room) in
      record {
        whole =
            drop_more ws 0 0 (ltb-true 0 (length ws) a.0) ∙ ap (λ l. number ws ∷ l) (sym (take-append-drop (2 * number ws) (drop 1 ws)))
            ∙ (λ i. long i ∷ (sym p.0 i ++ past_few ws));
        short = omega (arith, long, leb-true (number ws) 8 b.0);
        good = p.1;
      }

-- Outs.
abbrev settings_back : (o : List Setting) (rest : List ℕ) → GoodOut o → Written setting_of setting_words settings (out_words o ++ rest) o rest
settings_back o rest g = few_back setting_of setting_words settings o rest g.few g.settings

outs_back : (os : List (List Setting)) (rest : List ℕ) → Each GoodOut os →
    (outs_from (length os) (flat_map out_words os ++ rest) ≡ os) × (outs_in_from (length os) (flat_map out_words os ++ rest) ≡ true) × (past_from (length os) (flat_map out_words os ++ rest) ≡ rest)
unfolding outs_from outs_in_from past_from
outs_back [] rest h = (refl, refl, refl)
outs_back (o ∷ os) rest h =
    let behind = flat_map out_words os ++ rest in
    let is = append_assoc (out_words o) (flat_map out_words os) rest in
    let f = settings_back o behind h.0 in
    let more = outs_back os rest h.1 in (
      ap (outs_from (suc (length os))) is ∙ (λ i. f.read i ∷ (ap (outs_from (length os)) f.next ∙ more.0) i),
      ap (outs_in_from (suc (length os))) is ∙ and_from _ _ f.there (ap (outs_in_from (length os)) f.next ∙ more.1),
      ap (past_from (suc (length os))) is ∙ ap (past_from (length os)) f.next ∙ more.2,
    )

outs_forth : (n : ℕ) (ws : List ℕ) → outs_in_from n ws ≡ true → Each GoodOut (outs_from n ws) × (ws ≡ flat_map out_words (outs_from n ws) ++ past_from n ws)
unfolding outs_from outs_in_from past_from
outs_forth zero ws h = (tt, refl)
outs_forth (suc n) ws h =
    let p = and_parts _ _ h in
    let one = few_forth setting_of setting_words settings ws p.0 in
    let more = outs_forth n (past_few ws) p.1 in (
      (record { few = one.short; settings = one.good }, more.0),
      one.whole ∙ ap (λ l. out_words (settings_of (few ws)) ++ l) more.1
          ∙ sym (append_assoc (out_words (settings_of (few ws))) (flat_map out_words (outs_from n (past_few ws))) (past_from n (past_few ws))),
    )

-- Rules.
record RuleWritten (ws : List ℕ) (r : Rule) (rest : List ℕ) : Type 0 where
  read : rule_at ws ≡ r
  there : rule_in ws ≡ true
  next : past_rule ws ≡ rest

outs_there : (os : List (List Setting)) (body : List ℕ) → length os ≤ 16 → outs_in_from (length os) body ≡ true → outs_in (length os ∷ body) ≡ true
outs_there os body few h = and_from _ _ (lt-ltb 0 (suc (length body)) (omega arith)) (and_from _ _ (le-leb (length os) 16 few) h)

rule_back : (r : Rule) (rest : List ℕ) → GoodRule r → RuleWritten (rule_words r ++ rest) r rest
rule_back r rest g =
    let behind = length r.outs ∷ (flat_map out_words r.outs ++ rest) in
    let whole = append_assoc (length r.wants ∷ flat_map want_words r.wants) (length r.outs ∷ flat_map out_words r.outs) rest in
    let w = few_back want_of want_words wants r.wants behind g.few_wants g.wants in
    let o = outs_back r.outs rest g.outs in
    let ws = length r.wants ∷ (flat_map want_words r.wants ++ behind) in
    record {
      read = ap rule_at whole ∙ (λ i. record { wants = w.read i; outs = (ap outs_at w.next ∙ o.0) i });
      there = ap rule_in whole ∙ and_from _ _ w.there (ap outs_in w.next ∙ outs_there r.outs _ g.few_outs o.1);
      next = ap past_rule whole ∙ ap past_outs w.next ∙ o.2;
    }

record RuleRead (ws : List ℕ) : Type 0 where
  good : GoodRule (rule_at ws)
  whole : rule_words (rule_at ws) ++ past_rule ws ≡ ws

rule_forth : (ws : List ℕ) → rule_in ws ≡ true → RuleRead ws
rule_forth ws h =
    let p = and_parts _ _ h in
    let w = few_forth want_of want_words wants ws p.0 in
    let b = past_few ws in
    let q = and_parts _ _ p.1 in
    let few_outs = and_parts _ _ q.1 in
    let o = outs_forth (number b) (drop 1 b) few_outs.1 in
    let long = outs_length (number b) (drop 1 b) in
    let outs : b ≡ (length (outs_at b) ∷ flat_map out_words (outs_at b)) ++ past_outs b = drop_more b 0 0 (ltb-true 0 (length b) q.0) ∙ (λ i. sym long i ∷ o.1 i) in
    let front = length (wants_of (few ws)) ∷ flat_map want_words (wants_of (few ws)) in
    record {
      good = record { few_wants = w.short; wants = w.good; few_outs = omega (arith, long, leb-true (number b) 16 few_outs.0); outs = o.0 };
      whole = append_assoc front (length (outs_at b) ∷ flat_map out_words (outs_at b)) (past_outs b) ∙ ap (λ l. front ++ l) (sym outs) ∙ sym w.whole;
    }

rules_back : (n : ℕ) (t : Table) → Each GoodRule t → length t ≤ n → (rules_from n (encode t) ≡ t) × (sound_from n (encode t) ≡ true)
unfolding rules_from sound_from
rules_back zero [] good le = (refl, refl)
rules_back (suc n) [] good le = (refl, refl)
rules_back zero (r ∷ rs) good le = absurd (omega arith)
rules_back (suc n) (r ∷ rs) good le =
    let one = rule_back r (encode rs) good.0 in
    let more = rules_back n rs good.1 (omega arith) in (
      (λ i. one.read i ∷ (ap (rules_from n) one.next ∙ more.0) i),
      and_from _ _ one.there (ap (sound_from n) one.next ∙ more.1),
    )

rules_forth : (n : ℕ) (ws : List ℕ) → sound_from n ws ≡ true → Each GoodRule (rules_from n ws) × (encode (rules_from n ws) ≡ ws)
unfolding rules_from sound_from
rules_forth zero [] h = (tt, refl)
rules_forth zero (w ∷ ws) h = unsound h
rules_forth (suc n) [] h = (tt, refl)
rules_forth (suc n) (w ∷ ws) h =
    let p = and_parts _ _ h in
    let one = rule_forth (w ∷ ws) p.0 in
    let more = rules_forth n (past_rule (w ∷ ws)) p.1 in
    ((one.good, more.0), ap (λ l. rule_words (rule_at (w ∷ ws)) ++ l) more.1 ∙ one.whole)

pub reads_back : ReadsBack
reads_back t good = let r = rules_back most_rules t good.rules good.few in (r.1, r.0)

pub writes_back : WritesBack
writes_back ws h = let r = rules_forth most_rules ws h in (record { few = rules_few most_rules ws; rules = r.0 }, r.1)
