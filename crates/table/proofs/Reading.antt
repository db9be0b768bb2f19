-- What stands in front of the words that are left.
use Rattle.std.proofs.Common.{◌≡◌, ℕ, zero, suc, ◌-◌, ◌<◌, ◌≤◌, Bool, true, false, cond, eqb, ◌&&◌, List, [], ◌∷◌, length, drop, slice_index_or, sym, refl, ap, ◌∙◌, arith, ne_eqb}
use Rattle.std.proofs.lemmas.Bool.{and_parts, and_from, leb-true, lt-ltb, le-leb}
use Rattle.table.specs.Words.{most_rules, number, pairs_of, settings_of, are_pairs, few, past_few, few_in, outs_from, past_from, outs_in, outs_in_from, rule_at, past_rule, rule_in, rules_from, rules_of, sound_from, sound}

-- Pairs.
pub pairs_none : (ws : List ℕ) → length ws < 2 → pairs_of ws ≡ []
unfolding pairs_of
pairs_none [] lt = refl
pairs_none (f ∷ []) lt = refl
pairs_none (f ∷ (x ∷ ws)) lt = absurd (omega arith)

pub pairs_more : (ws rest : List ℕ) → 2 ≤ length ws → rest ≡ drop 2 ws → pairs_of ws ≡ record { field = slice_index_or ws 0 0; value = slice_index_or ws 1 0 } ∷ pairs_of rest
unfolding pairs_of
pairs_more [] rest le is = absurd (omega arith)
pairs_more (f ∷ []) rest le is = absurd (omega arith)
pairs_more (f ∷ (x ∷ ws)) rest le is = ap (λ l. record { field = f; value = x } ∷ pairs_of l) (sym is)

pub pairs_parts : (ws : List ℕ) → 2 ≤ length ws → are_pairs ws ≡ true → (slice_index_or ws 0 0 ≤ 7) × (are_pairs (drop 2 ws) ≡ true)
unfolding are_pairs
pairs_parts [] le h = absurd (omega arith)
pairs_parts (f ∷ []) le h = absurd (omega arith)
pairs_parts (f ∷ (x ∷ ws)) le h = let p = and_parts _ _ h in (leb-true f 7 p.0, p.1)

pub pairs_few : (ws : List ℕ) → length (pairs_of ws) ≤ length ws
unfolding pairs_of
pairs_few [] = omega arith
pairs_few (f ∷ []) = omega arith
pairs_few (f ∷ (x ∷ ws)) = omega (arith, pairs_few ws)

-- Outs.
pub outs_none : (n : ℕ) (ws : List ℕ) → n ≡ 0 → outs_from n ws ≡ []
unfolding outs_from
outs_none n ws is = ap (λ k. outs_from k ws) is

pub outs_length : (n : ℕ) (ws : List ℕ) → length (outs_from n ws) ≡ n
unfolding outs_from
outs_length zero ws = refl
outs_length (suc n) ws = omega (arith, outs_length n (past_few ws))

pub outs_more : (n : ℕ) (ws out rest : List ℕ) → 1 ≤ n → out ≡ few ws → rest ≡ past_few ws → outs_from n ws ≡ settings_of out ∷ outs_from (n - 1) rest
unfolding outs_from
outs_more zero ws out rest le is behind = absurd (omega arith)
outs_more (suc n) ws out rest le is behind =
    let less : n ≡ suc n - 1 = omega arith in
    λ i. settings_of (sym is i) ∷ outs_from (less i) (sym behind i)

pub outs_parts : (n : ℕ) (ws : List ℕ) → 1 ≤ n → outs_in_from n ws ≡ true → (few_in ws ≡ true) × (outs_in_from (n - 1) (past_few ws) ≡ true)
unfolding outs_in_from
outs_parts zero ws le h = absurd (omega arith)
outs_parts (suc n) ws le h =
    let less : n ≡ suc n - 1 = omega arith in
    let p = and_parts _ _ h in
    (p.0, ap (λ k. outs_in_from k (past_few ws)) (sym less) ∙ p.1)

pub outs_in_more : (n m : ℕ) (ws : List ℕ) → n ≡ suc m → outs_in_from n ws ≡ (few_in ws && outs_in_from m (past_few ws))
unfolding outs_in_from
outs_in_more n m ws is = ap (λ k. outs_in_from k ws) is

pub outs_in_none : (n : ℕ) (ws : List ℕ) → n ≡ 0 → outs_in_from n ws ≡ true
unfolding outs_in_from
outs_in_none n ws is = ap (λ k. outs_in_from k ws) is

-- outs whose number is in front
pub outs_in_is : (ws : List ℕ) (b : Bool) → 1 ≤ length ws → number ws ≤ 16 → outs_in_from (number ws) (drop 1 ws) ≡ b → outs_in ws ≡ b
outs_in_is ws b some le h = λ i. lt-ltb 0 (length ws) (omega (arith, some)) i && (le-leb (number ws) 16 le i && h i)

pub past_none : (n : ℕ) (ws : List ℕ) → n ≡ 0 → past_from n ws ≡ ws
unfolding past_from
past_none n ws is = ap (λ k. past_from k ws) is

pub past_more : (n m : ℕ) (ws : List ℕ) → n ≡ suc m → past_from n ws ≡ past_from m (past_few ws)
unfolding past_from
past_more n m ws is = ap (λ k. past_from k ws) is

-- Rules. More rules could come than do.
pub more_room : (n : ℕ) (ws : List ℕ) → sound_from n ws ≡ true → (rules_from (suc n) ws ≡ rules_from n ws) × (sound_from (suc n) ws ≡ true)
unfolding rules_from sound_from
more_room zero [] h = (refl, refl)
more_room zero (w ∷ ws) h = absurd (let z : ◌≡◌ {A = Bool} false true = h in cc)
more_room (suc n) [] h = (refl, refl)
more_room (suc n) (w ∷ ws) h =
    let p = and_parts _ _ h in
    let more = more_room n (past_rule (w ∷ ws)) p.1 in
    (ap (λ l. rule_at (w ∷ ws) ∷ l) more.0, and_from _ _ p.0 more.1)

-- a rule stands in front, and what follows are rules again
pub record Front (ws : List ℕ) : Type 0 where
  pub there : rule_in ws ≡ true
  pub rules : rules_of ws ≡ rule_at ws ∷ rules_of (past_rule ws)
  pub rest : sound (past_rule ws) ≡ true

front_of : (n : ℕ) (ws : List ℕ) → 1 ≤ length ws → sound_from (suc n) ws ≡ true →
    (rule_in ws ≡ true) × (rules_from (suc n) ws ≡ rule_at ws ∷ rules_from (suc n) (past_rule ws)) × (sound_from (suc n) (past_rule ws) ≡ true)
unfolding rules_from sound_from
front_of n [] le h = absurd (omega arith)
front_of n (w ∷ ws) le h =
    let p = and_parts _ _ h in
    let more = more_room n (past_rule (w ∷ ws)) p.1 in
    (p.0, ap (λ l. rule_at (w ∷ ws) ∷ l) (sym more.0), more.1)

pub front : (ws : List ℕ) → 1 ≤ length ws → sound ws ≡ true → Front ws
front ws le h = let p = front_of 2047 ws le h in record { there = p.0; rules = p.1; rest = p.2 }

pub rules_none : (ws : List ℕ) → length ws ≤ 0 → rules_of ws ≡ []
unfolding rules_from
rules_none [] le = refl
rules_none (w ∷ ws) le = absurd (omega arith)

pub rules_few : (n : ℕ) (ws : List ℕ) → length (rules_from n ws) ≤ n
unfolding rules_from
rules_few zero ws = omega arith
rules_few (suc n) [] = omega arith
rules_few (suc n) (w ∷ ws) = omega (arith, rules_few n (past_rule (w ∷ ws)))

pub sound_none : (n : ℕ) (ws : List ℕ) → length ws ≡ 0 → sound_from n ws ≡ true
unfolding sound_from
sound_none zero [] is = refl
sound_none (suc n) [] is = refl
sound_none zero (w ∷ ws) is = absurd (omega arith)
sound_none (suc n) (w ∷ ws) is = absurd (omega arith)

pub sound_more : (n m : ℕ) (ws : List ℕ) → n ≡ suc m → 1 ≤ length ws → sound_from n ws ≡ (rule_in ws && sound_from m (past_rule ws))
unfolding sound_from
sound_more n m [] is le = absurd (omega arith)
sound_more n m (w ∷ ws) is le = ap (λ k. sound_from k (w ∷ ws)) is

pub sound_last : (n : ℕ) (ws : List ℕ) → n ≡ 0 → sound_from n ws ≡ eqb (length ws) 0
unfolding sound_from
sound_last n [] is = ap (λ k. sound_from k []) is
sound_last n (w ∷ ws) is = ap (λ k. sound_from k (w ∷ ws)) is ∙ sym (ne_eqb (length (w ∷ ws)) 0 (λ e. omega (arith, e)))

-- words that count are sound
pub kept_sound : (b : Bool) (ws : List ℕ) → b ≡ sound ws → sound (cond b ws []) ≡ true
kept_sound true ws is = sym is
kept_sound false ws is = sound_none most_rules [] refl
