use Rattle.tablebytes.proofs.Trips.{reads_back, writes_back, no_front}
use Rattle.tablebytes.proofs.Sizes.{enough}
use Rattle.tablebytes.proofs.reads.format_stands.Goals as goal

pub returns : goal.returns
returns c = record { reads_back = reads_back; writes_back = writes_back; no_front = no_front; enough = enough }
