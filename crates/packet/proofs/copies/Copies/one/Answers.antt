use Rattle.std.proofs.Common.{sym, ap, ◌∙◌}
use Rattle.std.proofs.lemmas.List.{take-replicate}
use Rattle.packet.specs.Packet.{once}
use Rattle.packet.specs.Listed.{fields_of}
use Rattle.packet.proofs.Once.{once_one}
use Rattle.packet.proofs.copies.Copies.one.Goals as goal

pub invariant_of-result : goal.invariant_of-result
invariant_of-result g c =
    let alone = take-replicate 1 _ c.args.p c.requires in
    record { few = c.requires; apart = ap (λ ps. once (fields_of ps)) alone ∙ once_one c.args.p.fields ∙ sym (ap fields_of alone) }
