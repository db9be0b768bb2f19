use Rattle.std.proofs.Common.{sym, arith}
use Rattle.std.proofs.lemmas.List.{set_past}
use Rattle.packet.proofs.packets.Packet.put.Goals as goal

pub returns-else-f-lt8 : goal.returns-else-f-lt8
returns-else-f-lt8 c = record { value = sym (set_past c.args.self.fields c.args.f c.args.x (omega arith)) }
