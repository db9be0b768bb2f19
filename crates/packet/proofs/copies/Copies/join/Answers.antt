use Rattle.std.proofs.Common.{◌++◌, sym, ap, ◌∙◌}
use Rattle.packet.specs.Packet.{once}
use Rattle.packet.specs.Copies.{listing}
use Rattle.std.proofs.lemmas.Result.{err_from_is_err_and}
use Rattle.packet.proofs.Gathering.{join_more, join_full, join_all}
use Rattle.packet.proofs.copies.Copies.join.Goals as goal

pub returns-in_err-add : goal.returns-in_err-add
returns-in_err-add g c =
    let all = ap (λ l. once (listing c.args.self.now ++ l)) c.as_slice-p-items.ensures.value in
    let full = c.in_err-add.ensures.cases in
    let p = err_from_is_err_and c.from_residual.result c.from_residual.ensures.1 in
    rw p.1 record { cases = (join_full c.loop-p.self c.as_slice-p-items.result.now _ _ c.loop-p-test.true _ (c.loop-p.invariant ∙ all) full.0, p.2 ∙ full.1) }

pub loop-p-preserved : goal.loop-p-preserved
loop-p-preserved g c = join_more c.loop-p.self c.as_slice-p-items.result.now _ _ c.loop-p-test.true c.add.new.self c.in_ok-add.ensures.cases ∙ c.loop-p.invariant

pub returns : goal.returns
returns g c =
    record {
      cases =
          sym (join_all c.loop-p.self c.as_slice-p-items.result.now _ c.loop-p-test.false) ∙ c.loop-p.invariant
          ∙ ap (λ l. once (listing c.args.self.now ++ l)) c.as_slice-p-items.ensures.value;
    }
