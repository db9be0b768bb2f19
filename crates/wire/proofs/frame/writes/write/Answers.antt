use Rattle.std.proofs.Common.{◌≡◌, ◌∷◌, ◌++◌, [], get_or, rules, sym, ap, ◌∙◌}
use Rattle.std.specs.List.{flat_map}
use Rattle.octets.specs.Parse.{word_bytes}
use Rattle.wire.specs.Frames.{frame_bytes}
use Rattle.wire.proofs.Fields.{eight}
use Rattle.wire.proofs.frame.writes.write.Goals as goal

pub returns : goal.returns
returns c =
    let f = c.args.frame in
    let bytes : c.as_flattened.result.now ≡ frame_bytes f =
    c.as_flattened.ensures.value
    ∙ (λ k. 64 ∷ (get_or (c.code.ensures.value k) 0 0 ∷ (get_or (c.code.ensures.value k) 1 0 ∷ (f.hops ∷ (c.code-2.ensures.value k ++ (c.code-3.ensures.value k
    ++ (c.code-4.ensures.value k ++ (c.code-5.ensures.value k ++ (c.code-6.ensures.value k ++ (c.code-7.ensures.value k ++ (c.code-8.ensures.value k
    ++ (c.code-9.ensures.value k ++ []))))))))))))
    ∙ sym (ap (λ ps. 64 ∷ (word_bytes f.version ++ f.hops ∷ flat_map word_bytes ps)) (eight f.packet.fields (search rules))) in
    search rules
