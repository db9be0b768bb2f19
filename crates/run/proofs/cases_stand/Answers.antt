use Rattle.run.proofs.cases_stand.Goals as goal
use Rattle.run.proofs.Cases as cases

pub returns : goal.returns
returns c = record { rows = cases.cases_hold }
