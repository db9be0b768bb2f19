use Rattle.std.proofs.Common.{◌≡◌, true, false, ◌+◌, length, ◌∙◌, rules, tests, arith}
use Rattle.std.proofs.lemmas.Iterator.{first_from_Range}
use Rattle.prescribed.specs.Table.{names}
use Rattle.leaves.specs.Under.{marked, name_of}
use Rattle.leaves.proofs.Freed.{free_found, names_few}
use Rattle.leaves.proofs.sample.free.Goals as goal

pub returns : goal.returns
returns c =
    let ns = c.args.nodes.now in
    let ws = marked name_of c.args.row.now ns in
    let first = first_from_Range _ _ _ c.find.result (λ x. names c.args.f x ws ≡ false) (λ x. names c.args.f x ws ≡ true) c.find.ensures.ran
    (λ x q k. search (rules, tests)) (λ x q k. (search (rules, tests), search (rules, tests))) in
    record { value = c.unwrap_or.ensures ∙ free_found c.args.f ws (length ns + 1) c.find.result (omega (arith, names_few c.args.row.now ns)) first }
