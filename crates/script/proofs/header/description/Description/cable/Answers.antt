use Rattle.std.proofs.Common.{◌<◌, vec_items, ◌∙◌, rules, arith}
use Rattle.wire.specs.Nets.{wires_in}
use Rattle.script.specs.Described.{layout_of}
use Rattle.script.proofs.Growing.{linked_at}
use Rattle.script.proofs.Taken.{cable_kept, kept_alike}
use Rattle.script.proofs.header.description.Description.cable.Goals as goal

pub returns : goal.returns
returns c =
    let wired = c.link.ensures.wires ∙ linked_at c.in_ok-i.i c.in_ok-p.p c.in_ok-j.j c.in_ok-q.q (wires_in c.args.self.now.net) in
    search rules

pub invariant_of-self-2 : goal.invariant_of-self-2
invariant_of-self-2 c =
    let d = c.args.self.now in
    let i = c.in_ok-i.ensures in
    let p = c.in_ok-p.ensures in
    let q = c.in_ok-q.ensures in
    let all = c.link.new.self in
    let same = c.link.ensures.alike in
    let li : c.in_ok-i.i < d.net.switches = omega (arith, i.bound, c.switches.ensures.value) in
    let lj : c.in_ok-j.j < d.net.switches = omega (arith, c.in_ok-j.ensures.bound, c.switches-2.ensures.value) in
    record {
      kept =
          kept_alike d.net.switches all.switches d.net.ports all.ports d.hops (vec_items c.push.new.self) (vec_items d.ends) (wires_in all) same.switches same.ports
          (cable_kept (layout_of d) (vec_items d.cables) (vec_items d.ends) d.kept c.in_ok-i.i c.in_ok-p.p c.in_ok-j.j c.in_ok-q.q (wires_in all)
          (vec_items c.push.new.self) li p.bound lj q.bound p.free q.free
          (c.link.ensures.wires ∙ linked_at c.in_ok-i.i c.in_ok-p.p c.in_ok-j.j c.in_ok-q.q (wires_in d.net)) c.in_ok-push.ensures.items);
    }
