-- The wants, an arrow, the outs.
use Rattle.std.proofs.Common.{◌++◌, codes, ap}
use Rattle.std.proofs.Output.{has_written_of_eq}
use Rattle.table.specs.Lines.{outs_text}
use Rattle.table.specs.Views.{outs_in}
use Rattle.table.specs.Words.{pairs_of}
use Rattle.table.proofs.Alike.{wants_text_of}
use Rattle.table.proofs.lines.RuleDisplay.fmt.Goals as goal

pub returns-clause-writes : goal.returns-clause-writes
returns-clause-writes g c =
    λ plain ok.
    let r = c.args.self.now in
    has_written_of_eq _ _ _ _ _ (ap (λ l. l ++ (codes " -> " ++ outs_text (outs_in r.outs))) (wants_text_of (pairs_of r.wants.words.now))) (c.write.ensures.writes plain ok)
