-- What the value of a list of cables is.
use Rattle.wire.specs.declared.cables.Cables.{Cables}
use Rattle.wire.specs.Layouts.{Layout}
use Rattle.wire.specs.Nets.{wires_in}

abbrev pub layout_of : Cables → Layout
layout_of c = record { switches = c.net.switches; ports = c.net.ports; hops = c.hops; wire = wires_in c.net }
