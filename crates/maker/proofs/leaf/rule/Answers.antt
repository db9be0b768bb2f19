use Rattle.std.proofs.Common.{◌++◌, map, length, ap, ◌∙◌, arith}
use Rattle.std.proofs.lemmas.List.{length-append}
use Rattle.table.specs.Words.{outs_words}
use Rattle.leaves.specs.Outs.{settings_of}
use Rattle.maker.specs.Leaves.{pairs_words}
use Rattle.maker.proofs.Rows.{as_wants, pairs_long}
use Rattle.maker.proofs.leaf.rule.Goals as goal

pub outs-requires-clause-room : goal.outs-requires-clause-room
outs-requires-clause-room c =
    let ps = c.args.wants.now in
    omega (arith, ap length c.pairs.ensures.words, ap length c.new-words.ensures, length-append c.new-words.result.items (pairs_words ps), pairs_long ps, c.requires.few)

pub returns-clause-words : goal.returns-clause-words
returns-clause-words c =
    c.outs.ensures.words
    ∙ ap (λ l. l ++ outs_words (map settings_of c.args.os.now)) (c.pairs.ensures.words ∙ (λ i. c.new-words.ensures i ++ as_wants c.args.wants.now i))

pub returns-clause-room : goal.returns-clause-room
returns-clause-room c =
    let ps = c.args.wants.now in
    omega (arith, c.outs.ensures.few, ap length c.pairs.ensures.words, ap length c.new-words.ensures, length-append c.new-words.result.items (pairs_words ps), pairs_long ps, c.requires.few)
