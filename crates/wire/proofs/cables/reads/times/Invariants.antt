use Rattle.std.proofs.Common.{◌≡◌, ◌-◌}
use Rattle.octets.specs.Readers.{rest}
use Rattle.wire.specs.Layouts.{times}
use Rattle.wire.specs.Nets.{wires_in, Alike}
use Rattle.wire.specs.Reading.{Reads}
use Rattle.wire.proofs.cables.reads.times.Given as goal

-- the steps that are left give the same
abbrev pub invariant-loop : goal.invariant-loop
invariant-loop g l =
    (step : _) → Reads l.fn.net.switches l.fn.net.ports (goal.F-post g l.read) step →
    (times (l.count - l.counter) step (wires_in l.net) (rest l.c) ≡ times l.count step (wires_in l.fn.net) (rest l.fn.c)) × Alike l.net l.fn.net
