use Rattle.run.proofs.promise_stands.Goals as goal
use Rattle.run.proofs.Whole as whole

pub returns : goal.returns
returns c = record { promise = whole.promise }
