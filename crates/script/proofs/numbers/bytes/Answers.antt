use Rattle.std.proofs.Common.{vec_items}
use Rattle.script.proofs.Hex.{gives}
use Rattle.script.proofs.numbers.bytes.Goals as goal

pub returns : goal.returns
returns c =
    record { value = gives vec_items c.args.word.now c.decode.result c.map_err.result _ (λ e f p. p) c.decode.ensures.ok c.decode.ensures.err c.map_err.ensures.cases }
