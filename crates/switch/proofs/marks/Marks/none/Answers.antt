-- No mark at any port.
use Rattle.switch.proofs.Marked.{no_marks_lem}
use Rattle.switch.proofs.marks.Marks.none.Goals as goal

pub returns : goal.returns
returns c = record { value = no_marks_lem }
