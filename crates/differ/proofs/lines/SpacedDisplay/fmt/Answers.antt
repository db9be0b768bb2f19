-- Eight fields.
use Rattle.std.proofs.Common.{append_assoc, subst}
use Rattle.std.specs.Fmt.{HasWritten}
use Rattle.differ.proofs.lines.SpacedDisplay.fmt.Goals as goal

pub returns-clause-writes : goal.returns-clause-writes
returns-clause-writes g c =
    λ plain ok. subst (λ l. HasWritten g.W.Write.write_str_gives c.args.f.now l c.write.new.self) (simp append_assoc) (c.write.ensures.writes plain ok)
