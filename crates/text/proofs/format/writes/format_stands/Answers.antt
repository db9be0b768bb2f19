use Rattle.text.proofs.Trips.{reads_back, writes_back, no_front}
use Rattle.text.proofs.format.writes.format_stands.Goals as goal

pub returns : goal.returns
returns c = record { reads_back = reads_back; writes_back = writes_back; no_front = no_front }
