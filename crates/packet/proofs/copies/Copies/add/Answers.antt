use Rattle.std.proofs.Common.{◌<◌, length, refl, ◌∙◌, arith}
use Rattle.packet.proofs.Gathering.{found, added_old, added_full, added_new, once_since}
use Rattle.packet.proofs.copies.Copies.add.Goals as goal

pub returns-then-contains : goal.returns-then-contains
returns-then-contains g c =
    let is = found _ c.args.p.fields _ _ c.as_slice.ensures.value c.contains.ensures.value in
    record { cases = added_old c.args.self.now c.args.p (is ∙ c.if-contains.true) }

pub returns-then-self : goal.returns-then-self
returns-then-self g c =
    let is = found _ c.args.p.fields _ _ c.as_slice.ensures.value c.contains.ensures.value in
    record { cases = (added_full c.args.self.now c.args.p (is ∙ c.if-contains.false) (omega arith) (omega arith), refl) }

pub invariant_of-self : goal.invariant_of-self
invariant_of-self g c =
    let is = found _ c.args.p.fields _ _ c.as_slice.ensures.value c.contains.ensures.value in
    let room : c.args.self.now.count < length c.args.self.now.packets = omega arith in
    record { few = omega arith; apart = once_since _ _ (added_new c.args.self.now c.args.p (is ∙ c.if-contains.false) room) }

pub returns : goal.returns
returns g c =
    let is = found _ c.args.p.fields _ _ c.as_slice.ensures.value c.contains.ensures.value in
    let room : c.args.self.now.count < length c.args.self.now.packets = omega arith in
    record { cases = added_new c.args.self.now c.args.p (is ∙ c.if-contains.false) room }
