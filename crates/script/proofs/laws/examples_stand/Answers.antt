use Rattle.script.proofs.Examples.{examples}
use Rattle.script.proofs.laws.examples_stand.Goals as goal

pub returns : goal.returns
returns c = record { examples = examples }
