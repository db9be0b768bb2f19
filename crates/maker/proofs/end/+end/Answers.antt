use Rattle.std.proofs.Common.{⊎_elim, rules}
use Rattle.maker.proofs.Ends.{end_none, end_first, end_dropped, end_kept}
use Rattle.maker.proofs.end.+end.Goals as goal

pub returns-in_default-clause-value : goal.returns-in_default-clause-value
returns-in_default-clause-value t c = λ table is. let h = end_none table c.args.words.now is c.in_default.ensures.value in search rules

pub returns-then-behind-eq0-clause-value : goal.returns-then-behind-eq0-clause-value
returns-then-behind-eq0-clause-value t c = λ table is.
    let f = end_first table c.args.words.now c.in-Some.rest.now c.in-Some.outs is c.in-Some.ensures.value in
    let h = end_dropped table c.in-Some.outs c.end-behind.result.rules c.end-behind.result.words c.in-Some.rest.now f c.if-outs-eq0.true c.if-behind-eq0.true
    (c.end-behind.ensures.value f.others f.behind) in
    search rules

pub returns-clause-value : goal.returns-clause-value
returns-clause-value t c = λ table is.
    let f = end_first table c.args.words.now c.in-Some.rest.now c.in-Some.outs is c.in-Some.ensures.value in
    end_kept table c.args.words.now c.in-Some.rest.now c.in-Some.outs c.end-behind.result.rules c.end-behind.result.words f is
    (λ ho hr. ⊎_elim (λ p. p.1 hr) (λ ne. ne ho) c.else-outs-eq0.either) (c.end-behind.ensures.value f.others f.behind)
