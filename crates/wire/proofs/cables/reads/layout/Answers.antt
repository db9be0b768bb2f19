use Rattle.std.proofs.Common.{◌≤◌, sym, subst}
use Rattle.octets.specs.Parse.{Read}
use Rattle.octets.specs.Readers.{rest}
use Rattle.wire.specs.Layouts.{wires}
use Rattle.wire.specs.Nets.{wires_in}
use Rattle.wire.specs.Wires.{Sound}
use Rattle.wire.proofs.Linked.{wires_sound, sound_back, sound_ends, sound_apart}
use Rattle.wire.proofs.cables.reads.layout.Goals as goal

pub invariant_of-result : goal.invariant_of-result
invariant_of-result c =
    let n = c.in_ok-switches.switches in
    let m = c.in_ok-ports.ports in
    let net = c.in_ok-net.net in
    let w = wires_in net in
    let left = rest c.wires.new.c in
    let same = c.in_ok-net.ensures.net in
    let s : Sound n m w = wires_sound n m (rest c.between-3.new.self) w left (sym {a = Read w left} {b = wires n m (rest c.between-3.new.self)} c.in_ok-net.ensures.value) in
    let sound : Sound net.switches net.ports w = subst (λ k. Sound k net.ports w) (sym same.0) (subst (λ k. Sound n k w) (sym same.1) s) in
    record {
      some = subst (λ k. 1 ≤ k) (sym same.0) c.in_ok-switches.ensures.bounds.0;
      wide = subst (λ k. 1 ≤ k) (sym same.1) c.in_ok-ports.ensures.bounds.0;
      near = c.in_ok-hops.ensures.bounds.1;
      there = sound.there;
      back = sound_back net.switches net.ports w sound;
      ends = sound_ends net.switches net.ports w sound;
      apart = sound_apart net.switches net.ports w sound;
    }
