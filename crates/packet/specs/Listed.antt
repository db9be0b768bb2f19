-- Packets of the code as packets of the definitions: lists of fields.
use Rattle.std.specs.Prelude.{List, map}
use Rattle.packet.specs.Packet as packets
use Rattle.packet.specs.declared.packets.Packet.{Packet}

abbrev pub fields_of : List Packet → List packets.Packet
fields_of ps = map (λ p. p.fields) ps
