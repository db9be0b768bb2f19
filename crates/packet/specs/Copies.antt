-- Sets of copies.
--   listing s        the packets of a set
--   Took n ps r s    a set of at most n took in packets: it is now s, which has the packets ps, each once, unless there are too many
use Rattle.std.specs.Prelude.{◌≡◌, ℕ, true, List, length, take, Ok, Err, Result, nat_lt}
use Rattle.octets.specs.declared.fault.Fault.{Fault}
use Rattle.octets.specs.declared.fault.Fault.TheVariants as faults
use Rattle.packet.specs.Packet.{Packet, once}
use Rattle.packet.specs.declared.copies.Copies.{Copies}
use Rattle.packet.specs.Listed.{fields_of}

abbrev pub listing : {n : ℕ} → Copies n → List Packet
listing s = fields_of (take s.count s.packets)

abbrev pub Took : (n : ℕ) → List Packet → Result (Unit {0}) Fault → Copies n → Type 0
Took n ps (Ok done) s = listing s ≡ once ps
Took n ps (Err fault) s = (nat_lt n (length (once ps)) ≡ true) × (fault ≡ faults.Copies)
