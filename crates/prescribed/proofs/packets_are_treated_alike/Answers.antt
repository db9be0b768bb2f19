use Rattle.prescribed.proofs.Alike.{treated_alike}
use Rattle.prescribed.proofs.packets_are_treated_alike.Goals as goal

pub returns : goal.returns
returns c = record { alike = treated_alike }
