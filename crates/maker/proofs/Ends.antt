-- Walking over the words of a table, rule by rule, finds where it ends.
use Rattle.std.proofs.Common.{◌≡◌, ℕ, suc, ◌+◌, ◌-◌, ◌*◌, ◌<◌, ◌⊎◌, List, [], ◌∷◌, ◌++◌, length, take, Some, None, unwrap_or, sym, refl, ap, ◌∙◌, inl, inr, arith}
use Rattle.std.specs.List.{flat_map}
use Rattle.std.proofs.lemmas.List.{append_assoc, length-append, drop_at, take_at}
use Rattle.std.proofs.lemmas.Bool.{cond-true, le-leb}
use Rattle.packet.specs.Table.{Want, Setting, Rule, Table}
use Rattle.prescribed.specs.Table.{trim_to, trim}
use Rattle.table.specs.Words.{want_words, setting_words, out_words, rule_words, encode}
use Rattle.maker.specs.End.{skip, on_rest, out_after, outs_after, counted_after, rule_after, Ended}
use Rattle.maker.proofs.Joining.{joined_append}

-- one out more
module _ (k i : ℕ) (lt : i < k) where
  one_out : k - i ≡ suc (k - (i + 1))
  one_out = omega arith

  pub outs_more : (ws rest : List ℕ) → Some rest ≡ out_after ws → outs_after (k - (i + 1)) rest ≡ outs_after (k - i) ws
  outs_more ws rest e = ap (λ p. on_rest p (outs_after (k - (i + 1)))) e ∙ ap (λ m. outs_after m ws) (sym one_out)

-- over the words of a rule
skip_past : (n : ℕ) (xs ws : List ℕ) → length xs ≡ n → skip n (xs ++ ws) ≡ Some ws
skip_past n xs ws e = cond-true _ _ _ (le-leb n (length (xs ++ ws)) (omega (arith, length-append xs ws))) ∙ ap Some (drop_at xs ws n e)

wants_long : (ws : List Want) → length (flat_map want_words ws) ≡ 2 * length ws
wants_long [] = refl
wants_long (w ∷ ws) = omega (arith, wants_long ws)

settings_long : (o : List Setting) → length (flat_map setting_words o) ≡ 2 * length o
settings_long [] = refl
settings_long (s ∷ o) = omega (arith, settings_long o)

outs_past_lem : (os : List (List Setting)) (ws : List ℕ) → outs_after (length os) (flat_map out_words os ++ ws) ≡ Some ws
outs_past_lem [] ws = refl
outs_past_lem (o ∷ os) ws =
    ap (λ l. on_rest (out_after l) (outs_after (length os))) (append_assoc (out_words o) (flat_map out_words os) ws)
    ∙ ap (λ x. on_rest x (outs_after (length os))) (skip_past (2 * length o) (flat_map setting_words o) (flat_map out_words os ++ ws) (settings_long o))
    ∙ outs_past_lem os ws

rule_past_lem : (r : Rule) (ws : List ℕ) → rule_after (rule_words r ++ ws) ≡ Some (length r.outs, ws)
rule_past_lem r ws =
    ap (λ l. on_rest (skip (2 * length r.wants) l) counted_after) (append_assoc (flat_map want_words r.wants) (length r.outs ∷ flat_map out_words r.outs) ws)
    ∙ ap (λ x. on_rest x counted_after) (skip_past (2 * length r.wants) (flat_map want_words r.wants) ((length r.outs ∷ flat_map out_words r.outs) ++ ws) (wants_long r.wants))
    ∙ ap (λ x. on_rest x (λ rest. Some (length r.outs, rest))) (outs_past_lem r.outs ws)

-- no rule is left
pub end_none : (t : Table) (ws : List ℕ) → ws ≡ encode t → None ≡ rule_after ws → Ended t (record { words = 0; rules = 0 })
unfolding trim
end_none [] ws is e = (refl, refl)
end_none (q ∷ t) ws is e = never (e ∙ ap rule_after is ∙ rule_past_lem q (encode t))
  where
    never : {A : Type 0} {x : ℕ × List ℕ} → None ≡ Some x → A
    never {A} {x} h = let z : ◌≡◌ {A = ℕ} 0 1 = cc in absurd (omega arith)

-- the first rule and the others
pub record First (t : Table) (k : ℕ) (rest : List ℕ) : Type 0 where
  pub q : Rule
  pub others : Table
  pub whole : t ≡ q ∷ others
  pub count : k ≡ length q.outs
  pub behind : rest ≡ encode others

pub end_first : (t : Table) (ws rest : List ℕ) (k : ℕ) → ws ≡ encode t → Some (k, rest) ≡ rule_after ws → First t k rest
end_first [] ws rest k is e = never (e ∙ ap rule_after is)
  where
    never : {A : Type 0} {x : ℕ × List ℕ} → Some x ≡ None → A
    never {A} {x} h = let z : ◌≡◌ {A = ℕ} 0 1 = cc in absurd (omega arith)
end_first (q ∷ t) ws rest k is e =
    let same : ◌≡◌ {A = ℕ × List ℕ} (k, rest) (length q.outs, encode t) = ap (λ o. unwrap_or o (k, rest)) (e ∙ ap rule_after is ∙ rule_past_lem q (encode t)) in
    record { q = q; others = t; whole = refl; count = ap (λ p. p.0) same; behind = ap (λ p. p.1) same }

empty_outs : (os : List (List Setting)) → length os ≡ 0 → os ≡ []
empty_outs [] e = refl
empty_outs (o ∷ os) e = absurd (omega arith)

empty_table : (t : Table) → length t ≡ 0 → t ≡ []
empty_table [] e = refl
empty_table (q ∷ t) e = absurd (omega arith)

-- nothing behind has outs, nor has this rule
trim_gone : (q : Rule) (u : Table) → q.outs ≡ [] → trim u ≡ [] → trim (q ∷ u) ≡ []
unfolding trim
trim_gone q u ho hu = ap (trim_to q) hu ∙ ap (λ o. trim_to (record { wants = q.wants; outs = o }) []) ho

pub end_dropped : (t : Table) (k rules size : ℕ) (rest : List ℕ) (f : First t k rest) → k ≡ 0 → rules ≡ 0 → Ended f.others (record { words = size; rules = rules }) → Ended t (record { words = 0; rules = 0 })
end_dropped t k rules size rest f hk hr e =
    let outs = empty_outs f.q.outs (sym f.count ∙ hk) in
    let none = empty_table (trim f.others) (sym e.1 ∙ hr) in
    let gone : trim t ≡ [] = ap trim f.whole ∙ trim_gone f.q f.others outs none in
    (sym (ap (λ u. length (encode u)) gone), sym (ap length gone))

-- this rule is kept
trim_kept : (q : Rule) (u : Table) (k rules : ℕ) → k ≡ length q.outs → rules ≡ length (trim u) → (k ≡ 0 → rules ≡ 0 → ⊥) → trim (q ∷ u) ≡ q ∷ trim u
unfolding trim
trim_kept q u k rules hk hr some = by q.outs refl (trim u) refl
  where
    by : (os : List (List Setting)) → q.outs ≡ os → (v : Table) → trim u ≡ v → trim_to q (trim u) ≡ q ∷ trim u
    by os ho (x ∷ xs) hu = ap (trim_to q) hu ∙ ap (λ l. q ∷ l) (sym hu)
    by [] ho [] hu = absurd (some (hk ∙ ap length ho) (hr ∙ ap length hu))
    by (o ∷ os) ho [] hu = ap (trim_to q) hu ∙ ap (λ l. trim_to (record { wants = q.wants; outs = l }) []) ho ∙ ap (λ l. record { wants = q.wants; outs = l } ∷ []) (sym ho) ∙ ap (λ l. q ∷ l) (sym hu)

pub end_kept : (t : Table) (ws rest : List ℕ) (k rules size : ℕ) (f : First t k rest) → ws ≡ encode t → (k ≡ 0 → rules ≡ 0 → ⊥) → Ended f.others (record { words = size; rules = rules }) →
    Ended t (record { words = (length ws - length rest) + size; rules = rules + 1 })
end_kept t ws rest k rules size f is some e =
    let kept : trim t ≡ f.q ∷ trim f.others = ap trim f.whole ∙ trim_kept f.q f.others k rules f.count e.1 some in
    let long : length ws ≡ length (rule_words f.q) + length rest
    = ap length (is ∙ ap encode f.whole) ∙ length-append (rule_words f.q) (encode f.others) ∙ ap (λ l. length (rule_words f.q) + length l) (sym f.behind) in
    let words : length (encode (trim t)) ≡ length (rule_words f.q) + length (encode (trim f.others))
    = ap (λ u. length (encode u)) kept ∙ length-append (rule_words f.q) (encode (trim f.others)) in
    (omega (arith, long, words, e.0), omega (arith, ap length kept, e.1))

-- what is left stands in front
trim_more : (q : Rule) (v : Table) → (trim_to q v ≡ q ∷ v) ⊎ ((trim_to q v ≡ []) × (v ≡ []))
trim_more q (x ∷ v) = inl refl
trim_more q [] = by q.outs refl
  where
    by : (os : List (List Setting)) → q.outs ≡ os → (trim_to q [] ≡ q ∷ []) ⊎ ((trim_to q [] ≡ []) × (◌≡◌ {A = Table} [] []))
    by [] ho = inr (ap (λ l. trim_to (record { wants = q.wants; outs = l }) []) ho, refl)
    by (o ∷ os) ho = inl (ap (λ l. trim_to (record { wants = q.wants; outs = l }) []) ho ∙ ap (λ l. record { wants = q.wants; outs = l } ∷ []) (sym ho))

pub trim_part : (u : Table) → (others : Table) × (u ≡ trim u ++ others)
unfolding trim
trim_part [] = ([], refl)
trim_part (q ∷ u) = by (trim_more q (trim u)) (trim_part u)
  where
    by : (trim_to q (trim u) ≡ q ∷ trim u) ⊎ ((trim_to q (trim u) ≡ []) × (trim u ≡ [])) → (others : Table) × (u ≡ trim u ++ others) → (others : Table) × (q ∷ u ≡ trim_to q (trim u) ++ others)
    by (inl kept) (others, is) = (others, ap (λ l. q ∷ l) is ∙ ap (λ l. l ++ others) (sym kept))
    by (inr gone) (others, is) = (q ∷ u, ap (λ l. l ++ (q ∷ u)) (sym gone.0))

pub trim_front : (t : Table) → take (length (encode (trim t))) (encode t) ≡ encode (trim t)
trim_front t =
    let p = trim_part t in
    ap (take (length (encode (trim t)))) (ap encode p.1 ∙ joined_append rule_words (trim t) p.0) ∙ take_at (encode (trim t)) (encode p.0) _ refl
