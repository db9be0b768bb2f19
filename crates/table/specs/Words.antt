-- A table in words, rule after rule. A rule is the number of its wants, the wants, the number of its outs, and the outs;
-- an out is the number of its settings, and the settings. A want and a setting are a pair of a field and a value.
--   rules_of ws   the rules that stand in the words
--   Sound ws     the words are just such rules, at most 2,048, with fields of 0 to 7 and at most 8 wants, 16 outs and 8 settings in each
--   encode t     the words of a table
use Rattle.std.specs.Prelude.{◌≡◌, ℕ, zero, suc, ◌*◌, Bool, true, false, cond, ◌&&◌, List, [], ◌∷◌, ◌++◌, length, map, take, drop, nat_le, nat_lt, slice_index}
use Rattle.std.specs.List.{flat_map}
use Rattle.packet.specs.Pairs.{want_of, setting_of}
use Rattle.packet.specs.Table.{Want, Setting, Rule, Table}
use Rattle.packet.specs.declared.pair.Pair.{Pair}

-- the most rules of a table
abbrev pub most_rules : ℕ
most_rules = 2048

-- Reading, always from the first word on.
abbrev pub number : List ℕ → ℕ
number ws = slice_index ws 0

-- the pairs that stand in words, each in two of them
unfoldable pub pairs_of : List ℕ → List Pair
pairs_of [] = []
pairs_of (f ∷ []) = []
pairs_of (f ∷ (x ∷ ws)) = record { field = f; value = x } ∷ pairs_of ws

-- as wants, and as settings
abbrev pub wants_of : List ℕ → List Want
wants_of ws = map want_of (pairs_of ws)

abbrev pub settings_of : List ℕ → List Setting
settings_of ws = map setting_of (pairs_of ws)

-- the words of pairs whose number is in front, and the words behind them
abbrev pub few : List ℕ → List ℕ
few ws = take (2 * number ws) (drop 1 ws)

abbrev pub past_few : List ℕ → List ℕ
past_few ws = drop (2 * number ws) (drop 1 ws)

-- n outs, and the words behind them
unfoldable pub outs_from : ℕ → List ℕ → List (List Setting)
outs_from zero ws = []
outs_from (suc n) ws = settings_of (few ws) ∷ outs_from n (past_few ws)

unfoldable pub past_from : ℕ → List ℕ → List ℕ
past_from zero ws = ws
past_from (suc n) ws = past_from n (past_few ws)

-- the outs whose number is in front, and the words behind them
abbrev pub outs_at : List ℕ → List (List Setting)
outs_at ws = outs_from (number ws) (drop 1 ws)

abbrev pub past_outs : List ℕ → List ℕ
past_outs ws = past_from (number ws) (drop 1 ws)

-- the rule in front, and the words behind it
abbrev pub rule_at : List ℕ → Rule
rule_at ws = record { wants = wants_of (few ws); outs = outs_at (past_few ws) }

abbrev pub past_rule : List ℕ → List ℕ
past_rule ws = past_outs (past_few ws)

-- the rules up to the end of the words, of which there are at most n
unfoldable pub rules_from : ℕ → List ℕ → Table
rules_from zero ws = []
rules_from (suc n) [] = []
rules_from (suc n) (w ∷ ws) = rule_at (w ∷ ws) ∷ rules_from n (past_rule (w ∷ ws))

abbrev pub rules_of : List ℕ → Table
rules_of ws = rules_from most_rules ws

-- Whether what is read is there.
-- just pairs, with fields of 0 to 7
unfoldable pub are_pairs : List ℕ → Bool
are_pairs [] = true
are_pairs (f ∷ []) = false
are_pairs (f ∷ (x ∷ ws)) = nat_le f 7 && are_pairs ws

-- at most 8 pairs, with their number in front
abbrev pub few_in : List ℕ → Bool
few_in ws = nat_lt 0 (length ws) && (nat_le (number ws) 8 && (nat_le (2 * number ws) (length (drop 1 ws)) && are_pairs (few ws)))

unfoldable pub outs_in_from : ℕ → List ℕ → Bool
outs_in_from zero ws = true
outs_in_from (suc n) ws = few_in ws && outs_in_from n (past_few ws)

-- at most 16 outs, with their number in front
abbrev pub outs_in : List ℕ → Bool
outs_in ws = nat_lt 0 (length ws) && (nat_le (number ws) 16 && outs_in_from (number ws) (drop 1 ws))

abbrev pub rule_in : List ℕ → Bool
rule_in ws = few_in ws && outs_in (past_few ws)

-- at most n rules up to the end of the words
unfoldable pub sound_from : ℕ → List ℕ → Bool
sound_from zero [] = true
sound_from zero (w ∷ ws) = false
sound_from (suc n) [] = true
sound_from (suc n) (w ∷ ws) = rule_in (w ∷ ws) && sound_from n (past_rule (w ∷ ws))

abbrev pub sound : List ℕ → Bool
sound ws = sound_from most_rules ws

abbrev pub Sound : List ℕ → Type 0
Sound ws = sound ws ≡ true

-- what is left of words that are no table: nothing
abbrev pub kept : List ℕ → List ℕ
kept ws = cond (sound ws) ws []

-- Writing.
abbrev pub want_words : Want → List ℕ
want_words w = w.at ∷ (w.value ∷ [])

abbrev pub setting_words : Setting → List ℕ
setting_words s = s.at ∷ (s.value ∷ [])

abbrev pub wants_words : List Want → List ℕ
wants_words ws = length ws ∷ flat_map want_words ws

abbrev pub out_words : List Setting → List ℕ
out_words o = length o ∷ flat_map setting_words o

abbrev pub outs_words : List (List Setting) → List ℕ
outs_words os = length os ∷ flat_map out_words os

abbrev pub rule_words : Rule → List ℕ
rule_words r = wants_words r.wants ++ outs_words r.outs

abbrev pub encode : Table → List ℕ
encode t = flat_map rule_words t
