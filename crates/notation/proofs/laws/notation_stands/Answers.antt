use Rattle.notation.proofs.Back.{reads_back, left_out_lem}
use Rattle.notation.proofs.laws.notation_stands.Goals as goal

pub returns : goal.returns
returns c = record { back = reads_back; example = left_out_lem }
