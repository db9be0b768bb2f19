use Rattle.std.proofs.Common.{◌++◌, map, take, vec_items, vec_len, sym, ap, ◌∙◌, arith}
use lib.Seq.{take-append_seam}
use Rattle.std.proofs.lemmas.List.{append-nil, take_all}
use Rattle.std.proofs.lemmas.Result.{err_from_is_err_and}
use Rattle.plan.specs.Changes as spec
use Rattle.plan.specs.Parts.{text_in}
use Rattle.plan.proofs.Trips.{texts_more}
use Rattle.plan.proofs.change.writes.texts.Goals as goal

pub loop-i-init : goal.loop-i-init
loop-i-init c = sym (append-nil (vec_items c.args.out.now))

pub loop-i-preserved : goal.loop-i-preserved
loop-i-preserved c =
    texts_more (vec_items c.args.out.now) _ _ c.args.parts.now c.loop-i.i c.index-parts-i.result _ c.loop-i-test.true c.index-parts-i.is c.text.ensures.value c.loop-i.invariant c.in_ok-write.ensures.cases

pub returns-in_err-write : goal.returns-in_err-write
returns-in_err-write c =
    let old = vec_items c.args.out.now in
    let p = err_from_is_err_and c.from_residual.result c.from_residual.ensures.1 in
    rw p.1 record { cases = ap (take (vec_len c.args.out.now)) (c.in_err-write.ensures.cases ∙ c.loop-i.invariant) ∙ ap (λ n. take n (old ++ spec.texts_bytes 0 (map text_in (take c.loop-i.i c.args.parts.now)))) c.args.out.now.ok.0 ∙ take-append_seam old _ }

pub returns : goal.returns
returns c =
    let old = vec_items c.args.out.now in
    record { cases = c.loop-i.invariant ∙ ap (λ l. old ++ spec.texts_bytes 0 (map text_in l)) (take_all c.loop-i.i c.args.parts.now (omega arith)) }
