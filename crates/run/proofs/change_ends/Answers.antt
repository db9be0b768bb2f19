use Rattle.run.proofs.change_ends.Goals as goal
use Rattle.run.proofs.Live as live

pub returns : goal.returns
returns c = record { ends = live.ends }
