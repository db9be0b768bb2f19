-- Two texts.
use Rattle.std.proofs.Common.{List, vec_items, ap, ◌∙◌, subst, arith}
use Rattle.text.specs.Texts.{nodes_of}
use Rattle.text.specs.Trees.{meaning}
use Rattle.packet.specs.Packet.{Packet}
use Rattle.packet.specs.Listed.{fields_of}
use Rattle.table.specs.Views.{rules_in}
use Rattle.table.specs.Words.{kept}
use Rattle.compare.specs.Sets.{Listed}
use Rattle.compare.specs.Tables.{Found}
use Rattle.compare.proofs.Finding.{counted, smallest}
use Rattle.compare.proofs.Listing.{sent_eight}
use Rattle.compare.proofs.texts.compare.Goals as goal

pub listed-requires : goal.listed-requires
listed-requires c =
    record { eight = rw (c.as_slice-3.ensures.value, c.send.ensures.value) (sent_eight _ c.in-Some.packet.fields (omega arith)) }

pub listed-requires-2 : goal.listed-requires-2
listed-requires-2 c =
    record { eight = rw (c.as_slice-4.ensures.value, c.send-2.ensures.value) (sent_eight _ c.in-Some.packet.fields (omega arith)) }

pub returns : goal.returns
returns c =
    let a = meaning (nodes_of c.args.first) in
    let b = meaning (nodes_of c.args.second) in
    let one = c.in_ok-one.ensures.cases in
    let two = c.in_ok-two.ensures.cases in
    let s = rules_in c.new-first.result in
    let t = rules_in c.new-second.result in
    let p = c.in-Some.packet.fields in
    record {
      cases = (
        one.fits,
        two.fits,
        smallest a b s t p (fields_of (vec_items c.in_ok-ours.ours)) (fields_of (vec_items c.in_ok-theirs.theirs))
            (counted a (vec_items c.in_ok-one.one) _ one (c.new-first.ensures.value ∙ ap kept c.as_slice.ensures.value))
            (counted b (vec_items c.in_ok-two.two) _ two (c.new-second.ensures.value ∙ ap kept c.as_slice-2.ensures.value))
            (subst (Found s t) c.in-Some.is c.in_ok-packet.ensures.made)
            (subst (λ (l : List Packet). Listed (fields_of (vec_items c.in_ok-ours.ours)) l) (c.as_slice-3.ensures.value ∙ c.send.ensures.value) c.in_ok-ours.ensures.made)
            (subst (λ (l : List Packet). Listed (fields_of (vec_items c.in_ok-theirs.theirs)) l) (c.as_slice-4.ensures.value ∙ c.send-2.ensures.value) c.in_ok-theirs.ensures.made),
      );
    }
