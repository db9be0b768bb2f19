use Rattle.table.proofs.Encoding.{reads_back, writes_back}
use Rattle.table.proofs.tables.calls.layout_stands.Goals as goal

pub returns : goal.returns
returns c = record { reads_back = reads_back; writes_back = writes_back }
