use Rattle.prescribed.proofs.Differ.{outs_differ}
use Rattle.prescribed.proofs.outs_differ.Goals as goal

pub returns : goal.returns
returns c = record { differ = outs_differ }
