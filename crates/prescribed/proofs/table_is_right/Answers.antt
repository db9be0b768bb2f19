use Rattle.prescribed.proofs.Right.{always_right}
use Rattle.prescribed.proofs.table_is_right.Goals as goal

pub returns : goal.returns
returns c = record { right = always_right }
