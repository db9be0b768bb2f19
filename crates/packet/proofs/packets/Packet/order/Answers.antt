use Rattle.std.proofs.Common.{arith}
use Rattle.packet.proofs.Order.{ordered}
use Rattle.packet.proofs.packets.Packet.order.Goals as goal

pub returns : goal.returns
returns c = record { cases = ordered c.args.self.fields c.args.other.fields c.cmp.result (omega arith) c.cmp.ensures }
