-- How many bytes a table has.
use Rattle.std.proofs.Common.{ℕ, ◌*◌, ◌≤◌, List, [], ◌∷◌, length, ap, arith}
use Rattle.std.specs.List.{flat_map}
use Rattle.std.proofs.lemmas.List.{length-append}
use Rattle.packet.specs.Table.{Setting, Rule}
use Rattle.table.specs.Bytes.{want_bytes, setting_bytes, wants_bytes, out_bytes, outs_bytes, rule_bytes}
use Rattle.table.specs.Words.{most_rules, Sound, rules_of, want_words, setting_words, wants_words, out_words, outs_words, rule_words}
use Rattle.table.proofs.Encoding.{writes_back}
use Rattle.table.proofs.Reading.{rules_few}

twice : {X : Type 0} (bytes words : X → List ℕ) → ((x : X) → length (bytes x) ≤ 2 * length (words x)) → (xs : List X) → length (flat_map bytes xs) ≤ 2 * length (flat_map words xs)
twice bytes words each [] = omega arith
twice bytes words each (x ∷ xs) =
    omega (arith, length-append (bytes x) (flat_map bytes xs), length-append (words x) (flat_map words xs), each x, twice bytes words each xs)

out_twice : (o : List Setting) → length (out_bytes o) ≤ 2 * length (out_words o)
out_twice o = omega (arith, twice setting_bytes setting_words (λ s. omega arith) o)

rule_twice : (r : Rule) → length (rule_bytes r) ≤ 2 * length (rule_words r)
rule_twice r =
    omega (
      arith,
      twice want_bytes want_words (λ w. omega arith) r.wants,
      twice out_bytes out_words out_twice r.outs,
      length-append (wants_bytes r.wants) (outs_bytes r.outs),
      length-append (wants_words r.wants) (outs_words r.outs),
    )

-- two bytes for each word are enough, besides the number of rules
pub bytes_few : (ws : List ℕ) → Sound ws → length (flat_map rule_bytes (rules_of ws)) ≤ 2 * length ws
bytes_few ws h = omega (arith, twice rule_bytes rule_words rule_twice (rules_of ws), ap length (writes_back ws h).1)

pub count_few : (ws : List ℕ) → length (rules_of ws) ≤ 2048
count_few ws = rules_few most_rules ws
