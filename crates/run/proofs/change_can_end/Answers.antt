use Rattle.run.proofs.change_can_end.Goals as goal
use Rattle.run.proofs.Can as can

pub returns : goal.returns
returns c = record { ends = can.can_end }
