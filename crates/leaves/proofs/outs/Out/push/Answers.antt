use Rattle.std.proofs.Common.{◌<◌, map, length, take, ap, ◌∙◌, arith}
use Rattle.std.proofs.lemmas.List.{length-map, length-take, take_more_set, map_push}
use Rattle.packet.specs.Pairs.{setting_of}
use Rattle.leaves.proofs.outs.Out.push.Goals as goal

pub returns : goal.returns
returns c =
    let o = c.args.self.now in
    let room : o.count < length o.settings = omega (arith, c.requires.room, length-map (take o.count o.settings) setting_of, length-take o.count o.settings) in
    record { value = ap (map setting_of) (take_more_set o.settings o.count c.args.p room) ∙ map_push setting_of (take o.count o.settings) c.args.p }
