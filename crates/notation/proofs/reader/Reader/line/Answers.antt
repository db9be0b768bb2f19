-- One node more, a fault, and the end of the line.
use Rattle.std.proofs.Common.{◌∙◌}
use Rattle.std.proofs.lemmas.Result.{err_from_is_err_and}
use Rattle.notation.specs.Readers.{sofar}
use Rattle.notation.proofs.Turns.{nodes_more, nodes_stop, nodes_end}
use Rattle.notation.proofs.reader.Reader.line.Goals as goal

pub returns-in_err-piece : goal.returns-in_err-piece
returns-in_err-piece c =
    let stop = nodes_stop (sofar c.loop-piece.self) _ _ _ _ c.in-Some.ensures.steps c.in_err-piece.ensures.value ∙ c.loop-piece.invariant in
    let p = err_from_is_err_and c.from_residual.result c.from_residual.ensures.1 in
    record { value = rw (p.1, p.2) stop }

pub loop-piece-preserved : goal.loop-piece-preserved
loop-piece-preserved c = nodes_more (sofar c.loop-piece.self) _ _ _ _ c.in-Some.ensures.steps c.in_ok-piece.ensures.value ∙ c.loop-piece.invariant

pub returns : goal.returns
returns c = record { value = nodes_end (sofar c.loop-piece.self) _ c.in-None.ensures.steps.0 ∙ c.loop-piece.invariant }
