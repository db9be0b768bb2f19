use Rattle.run.proofs.rehearsal_stands.Goals as goal
use Rattle.run.proofs.Rehearsal as kept

pub returns : goal.returns
returns c = record { rehearsal = kept.rehearsal }
