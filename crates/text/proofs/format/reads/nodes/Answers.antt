use Rattle.std.proofs.Common.{◌+◌, ◌-◌, length, sym, ap, ◌∙◌, arith}
use Rattle.octets.specs.Readers.{rest}
use Rattle.std.proofs.lemmas.List.{length_push}
use Rattle.std.proofs.lemmas.Result.{err_from_is_err_and}
use Rattle.text.specs.Format.{nodes}
use Rattle.text.specs.Texts.{drafted}
use Rattle.text.proofs.Sound.{added_fitting}
use Rattle.text.proofs.Reading.{nodes_more, nodes_stop, node_fits}
use Rattle.text.proofs.format.reads.nodes.Goals as goal

pub returns-in_err-n : goal.returns-in_err-n
returns-in_err-n c =
    let stop = nodes_stop c.args.count c.loop-i._i _ _ _ c.loop-i-test.true c.in_err-n.ensures.value ∙ c.loop-i.invariant.1 in
    let p = err_from_is_err_and c.from_residual.result c.from_residual.ensures.1 in record { value = rw (p.1, p.2) stop }

pub loop-i-preserved : goal.loop-i-preserved
loop-i-preserved c =
    let read = c.in_ok-n.ensures.value in
    let few = c.loop-i.invariant.0 in
    let added = added_fitting c.in_ok-n.n (drafted c.loop-i.draft) (drafted c.push.new.self) c.push.result c.push.ensures.cases (omega arith) (node_fits (drafted c.loop-i.draft) (rest c.loop-i.c) c.in_ok-n.n (rest c.node.new.c) (sym read)) in (
      ap length added ∙ length_push _ _ ∙ ap (λ k. k + 1) few,
      ap (λ ns. nodes (c.args.count - (c.loop-i._i + 1)) ns (rest c.node.new.c)) added
          ∙ nodes_more c.args.count c.loop-i._i _ _ _ _ c.loop-i-test.true read ∙ c.loop-i.invariant.1,
    )
