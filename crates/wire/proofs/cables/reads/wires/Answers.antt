use Rattle.std.proofs.Common.{rules, ◌∙◌}
use Rattle.wire.specs.Layouts.{cable, outside}
use Rattle.wire.proofs.cables.reads.wires.Goals as goal

pub returns-clause-net : goal.returns-clause-net
returns-clause-net c =
    let n = c.args.switches in
    let m = c.args.ports in
    let one = (c.times.ensures.value (cable n m) (search rules)).1 in
    let other = (c.times-2.ensures.value (outside n m) (search rules)).1 in
    (other.switches ∙ one.switches ∙ c.new-net.ensures.switches, other.ports ∙ one.ports ∙ c.new-net.ensures.ports)
