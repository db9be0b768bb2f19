use Rattle.std.proofs.Common.{◌<◌, vec_items, arith}
use Rattle.wire.specs.Nets.{wires_in}
use Rattle.script.specs.Described.{layout_of}
use Rattle.script.proofs.Taken.{end_kept, kept_alike}
use Rattle.script.proofs.header.description.Description.outside.Goals as goal

pub invariant_of-self-2 : goal.invariant_of-self-2
invariant_of-self-2 c =
    let d = c.args.self.now in
    let i = c.in_ok-i.ensures in
    let p = c.in_ok-p.ensures in
    let all = c.open.new.self in
    let one = c.open.ensures.alike in
    let li : c.in_ok-i.i < d.net.switches = omega (arith, i.bound, c.switches.ensures.value) in
    record {
      kept =
          kept_alike d.net.switches all.switches d.net.ports all.ports d.hops (vec_items d.cables) (vec_items c.push.new.self) (wires_in all) one.switches one.ports
          (end_kept (layout_of d) (vec_items d.cables) (vec_items d.ends) d.kept c.in_ok-i.i c.in_ok-p.p (wires_in all) (vec_items c.push.new.self)
          li p.bound p.loose c.open.ensures.wires c.in_ok-push.ensures.items);
    }
