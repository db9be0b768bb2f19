-- What the value of a net is: its switches, their ports, and what hangs on each.
use Rattle.std.specs.Prelude.{◌≡◌}
use Rattle.wire.specs.declared.net.Net.{Net}
use Rattle.wire.specs.Wires.{Wires, wires_of}

abbrev pub wires_in : Net → Wires
wires_in n = wires_of n.board

-- as many switches and ports
pub record Alike (one other : Net) : Type 0 where
  pub switches : one.switches ≡ other.switches
  pub ports : one.ports ≡ other.ports
