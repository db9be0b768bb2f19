use Rattle.std.proofs.Common.{◌≡◌, ◌+◌, eqb, count_by, sym, ap, ◌∙◌, rules}
use Rattle.std.proofs.iter.runs.Made.{chains}
use Rattle.leaves.proofs.Counting.{values_counted}
use Rattle.leaves.proofs.pairs.calls.values.Goals as goal

pub returns-clause-value : goal.returns-clause-value
returns-clause-value c =
    let e : c.count.result ≡ count_by (λ p. eqb p.field c.args.f) c.args.pairs.now = search (rules, chains) in
    ap (λ n. 1 + n) e ∙ sym (values_counted c.args.f c.args.pairs.now)
