use Rattle.std.proofs.Common.{◌≡◌, ◌++◌, rules, vec_items}
use Rattle.wire.specs.Lists.{layout_bytes}
use Rattle.wire.specs.Nets.{wires_in}
use Rattle.script.proofs.Taken.{bytes_read}
use Rattle.script.proofs.header.description.Description.bytes.Goals as goal

pub returns : goal.returns
returns c =
    let d = c.args.self.now in
    let wrote : vec_items c.write.new.out ≡ vec_items c.new-out.result ++ layout_bytes c.switches.result c.ports.result d.hops c.deref.result.now c.deref-2.result.now = search rules in
    record {
      cases =
          bytes_read d.net.switches d.net.ports d.hops (vec_items d.cables) (vec_items d.ends) (wires_in d.net) d.kept
          c.switches.result c.ports.result (vec_items c.write.new.out) (vec_items c.new-out.result) c.deref.result.now c.deref-2.result.now
          c.switches.ensures.value c.ports.ensures.value c.new-out.ensures.items c.deref.ensures.value c.deref-2.ensures.value wrote;
    }
