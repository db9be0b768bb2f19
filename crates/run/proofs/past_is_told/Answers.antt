use Rattle.run.proofs.past_is_told.Goals as goal
use Rattle.run.proofs.Past as past

pub returns : goal.returns
returns c = record { past = past.told }
