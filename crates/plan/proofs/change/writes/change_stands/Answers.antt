use Rattle.plan.proofs.Trips.{reads_back}
use Rattle.plan.proofs.change.writes.change_stands.Goals as goal

pub returns : goal.returns
returns c = record { reads_back = reads_back }
