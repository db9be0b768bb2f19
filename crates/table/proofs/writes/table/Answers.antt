-- The number of rules, and the rules.
use Rattle.std.proofs.Common.{◌≡◌, ℕ, ◌∷◌, ◌++◌, [], ◌/◌, ◌%◌, length, ap, ◌∙◌, arith}
use Rattle.std.proofs.lemmas.Bool.{cond-true}
use Rattle.std.proofs.lemmas.List.{append_assoc}
use Rattle.std.specs.List.{flat_map}
use Rattle.std.specs.Result.{is_ok}
use Rattle.table.specs.Bytes.{rule_bytes}
use Rattle.table.specs.Views.{rules_in}
use Rattle.table.proofs.Sizes.{count_few}
use Rattle.table.proofs.writes.table.Goals as goal

pub returns : goal.returns
returns c =
    let n = length (rules_in c.args.table) in
    let low : n / 256 % 256 ≡ n / 256 = omega (arith, count_few c.args.table.words.now) in
    let bytes = c.to_be_bytes.ensures ∙ ap (λ (k : ℕ). k / 256 % 256 ∷ (k % 256 ∷ [])) c.rule_count-count.ensures.value ∙ ap (λ k. k ∷ (n % 256 ∷ [])) low in
    let wrote = c.extend_from_slice.ensures.items ∙ cond-true _ _ _ (ap is_ok c.unwrap.ensures) ∙ (λ i. c.in_ok-reserve.ensures.items i ++ bytes i) in
    let all = flat_map rule_bytes (rules_in c.args.table) in
    record { cases = c.rules.ensures.items ∙ ap (λ l. l ++ all) wrote ∙ append_assoc c.args.out.now.items (n / 256 ∷ (n % 256 ∷ [])) all }
