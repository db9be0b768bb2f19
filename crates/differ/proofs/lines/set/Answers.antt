-- One packet more.
use Rattle.std.proofs.Common.{[], ◌++◌, codes, string_bytes, get_or, take, ap, sym, ◌∙◌}
use Rattle.std.specs.List.{flat_map}
use Rattle.std.proofs.lemmas.List.{flat_map_more, map_more}
use Rattle.packet.specs.Packet.{Packet}
use Rattle.packet.specs.Listed.{fields_of}
use Rattle.differ.specs.Lines.{packet_text}
use Rattle.differ.proofs.lines.set.Goals as goal

pub loop-next-preserved : goal.loop-next-preserved
loop-next-preserved c =
    let ps = c.in-Some.rest.now in
    let i = c.loop-next.next-index in
    let piece = λ (p : Packet). codes " | " ++ packet_text p in
    let before = string_bytes c.write.new.self in
    let p = get_or ps i (record { fields = [] }) in
    c.in_ok-write-2.ensures.bytes ∙ ap (λ l. l ++ piece p.fields) c.loop-next.invariant ∙ flat_map_more piece before (fields_of (take i ps)) p.fields
    ∙ ap (λ qs. before ++ flat_map piece qs) (sym (map_more (λ q. q.fields) ps i (record { fields = [] }) c.loop-next-test.true))
