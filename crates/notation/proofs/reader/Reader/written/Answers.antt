use Rattle.std.proofs.Common.{arith}
use Rattle.std.proofs.lemmas.Result.{err_from_is_err_and}
use Rattle.notation.specs.Words.{left}
use Rattle.notation.specs.Readers.{sofar}
use Rattle.notation.proofs.Faulty.{written_bad}
use Rattle.notation.proofs.reader.Reader.written.Goals as goal

pub returns-in_err-k : goal.returns-in_err-k
returns-in_err-k c =
    let p = err_from_is_err_and c.from_residual.result c.from_residual.ensures.1 in
    record { value = rw (p.1, p.2) (written_bad c.args.want (sofar c.args.self.now) (left c.args.words.now) _ (omega arith) c.in_err-k.ensures.value) }
