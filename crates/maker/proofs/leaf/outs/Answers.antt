use Rattle.std.proofs.Common.{◌≡◌, [], ◌++◌, map, length, get_or, sym, ap, ◌∙◌, arith}
use Rattle.std.proofs.lemmas.List.{get_or-map, length-append, length-map}
use Rattle.octets.proofs.Appends.{appended_more}
use Rattle.table.specs.Words.{out_words}
use Rattle.leaves.specs.Outs.{settings_of}
use Rattle.maker.specs.Leaves.{pairs_words}
use Rattle.maker.proofs.Rows.{as_out, pairs_long}
use Rattle.maker.proofs.leaf.outs.Goals as goal

pub loop-o-preserved : goal.loop-o-preserved
loop-o-preserved c =
    let os = c.args.os.now in
    let o = c.o-item.result in
    let here = ap settings_of c.o-item.is in
    let out : settings_of o ≡ get_or (map settings_of os) c.loop-o.o-index [] = here ∙ sym (get_or-map settings_of os c.loop-o.o-index o [] c.loop-o-test.true) in (
      omega (
        arith,
        ap length c.pairs.ensures.words,
        length-append c.loop-o.words.items (pairs_words c.as_slice.result.now),
        pairs_long c.as_slice.result.now,
        c.as_slice.ensures.few,
        c.loop-o.invariant.0,
      ),
      appended_more out_words _ (map settings_of os) _ _ c.loop-o.o-index [] (omega (arith, c.loop-o-test.true, length-map os settings_of)) c.loop-o.invariant.1
          (c.pairs.ensures.words ∙ ap (λ l. c.loop-o.words.items ++ l) (as_out c.as_slice.result.now ∙ ap out_words (c.as_slice.ensures.value ∙ out))),
    )
