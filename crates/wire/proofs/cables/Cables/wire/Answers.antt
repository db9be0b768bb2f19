use Rattle.wire.specs.Nets.{wires_in}
use Rattle.wire.proofs.Linked.{sound_all}
use Rattle.wire.proofs.cables.Cables.wire.Goals as goal

pub returns : goal.returns
returns c =
    let self = c.args.self.now in
    let net = self.net in
    record {
      value = c.at.ensures.value;
      sound = sound_all net.switches net.ports (wires_in net) self.there self.back self.ends self.apart;
    }
