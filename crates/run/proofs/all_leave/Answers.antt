use Rattle.run.proofs.all_leave.Goals as goal
use Rattle.run.proofs.Leave as leave

pub returns : goal.returns
returns c = record { leave = leave.all_leave }
