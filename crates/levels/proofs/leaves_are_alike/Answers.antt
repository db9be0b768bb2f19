use Rattle.levels.proofs.Cutting.{leaves_alike}
use Rattle.levels.proofs.leaves_are_alike.Goals as goal

pub returns : goal.returns
returns c = record { alike = leaves_alike }
