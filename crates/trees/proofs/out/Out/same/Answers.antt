-- An out that keeps every field.
use Rattle.trees.proofs.Applied.{applied_same}
use Rattle.trees.proofs.out.Out.same.Goals as goal

pub returns : goal.returns
returns c = record { value = λ p h. applied_same p }
