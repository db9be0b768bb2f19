-- What a description stands for, and what a line makes of it.
use Rattle.std.specs.Prelude.{◌≡◌, ◌⊎◌, [], Ok, Err, Result}
use Rattle.octets.specs.declared.fault.Fault.{Fault}
use Rattle.octets.specs.declared.fault.Fault.TheVariants.{Memory}
use Rattle.octets.specs.Faults.{number}
use Rattle.notation.specs.Reading.{Got, Read, Bad}
use Rattle.wire.specs.Layouts.{Layout}
use Rattle.wire.specs.Nets.{wires_in}
use Rattle.script.specs.declared.header.description.Description.{Description}

abbrev pub layout_of : Description → Layout
layout_of d = record { switches = d.net.switches; ports = d.net.ports; hops = d.hops; wire = wires_in d.net }

-- a description begins
abbrev pub Opens : Result Description Fault → Got Layout → Type 0
Opens (Ok d) g = Read (layout_of d) [] ≡ g
Opens (Err e) g = Bad (number e) ≡ g

-- the description after a line; after a fault it is of no more use
abbrev pub Becomes : {X : Type 0} → Result X Fault → Description → Got Layout → Type 0
Becomes (Ok x) d g = Read (layout_of d) [] ≡ g
Becomes (Err e) d g = (e ≡ Memory) ⊎ (Bad (number e) ≡ g)
