-- A word, nothing between two blanks, and the end.
use Rattle.std.proofs.Common.{◌<◌, length, drop, sym, ap, ◌∙◌, arith}
use Rattle.std.proofs.lemmas.Bool.{eqb-true, eqb-false}
use Rattle.notation.specs.declared.marks.Mark.TheVariants.{Blank}
use Rattle.notation.specs.Marks.{behind}
use Rattle.notation.specs.Words.{some, first, left, unblanked}
use Rattle.notation.proofs.Cuts.{some_word, no_word, words_next, words_skip, no_words, unblanked_word, unblanked_blank, unblanked_none}
use Rattle.notation.proofs.words.WordsIterator.next.Goals as goal

pub returns-then-not-is_empty : goal.returns-then-not-is_empty
unfolding left
returns-then-not-is_empty c =
    let bs = c.loop-word.self.bytes.now in
    let more : 0 < length bs = omega (arith, eqb-false (length bs) 0 (sym c.loop-word-test.ensures)) in
    let word = sym c.if-not-is_empty.ensures in
    let all = c.loop-word.invariant.0 ∙ words_next bs _ _ more c.cut.ensures.front c.cut.ensures.back word in
    let same = unblanked_word bs (ap some (sym c.cut.ensures.front) ∙ some_word _ word) in
    record {
      steps = all;
      goes = record { on = λ _. (tt, tt, omega (arith, ap length all)); keeps = tt; rests = λ _. tt };
      word = sym (ap first all);
      after = sym (ap (drop 1) all);
      bytes = c.cut.ensures.back ∙ ap (behind Blank) (sym (c.loop-word.invariant.1 ∙ same));
    }

pub loop-word-preserved : goal.loop-word-preserved
unfolding left
loop-word-preserved c =
    let bs = c.loop-word.self.bytes.now in
    let more : 0 < length bs = omega (arith, eqb-false (length bs) 0 (sym c.loop-word-test.ensures)) in
    let none = sym c.if-not-is_empty.ensures in
    let blank = unblanked_blank bs more (ap some (sym c.cut.ensures.front) ∙ no_word _ none) in (
      c.loop-word.invariant.0 ∙ words_skip bs _ _ more c.cut.ensures.front c.cut.ensures.back none,
      c.loop-word.invariant.1 ∙ blank ∙ ap unblanked (sym c.cut.ensures.back),
    )

pub returns : goal.returns
unfolding left
returns c =
    let bs = c.loop-word.self.bytes.now in
    let empty = eqb-true (length bs) 0 (sym c.loop-word-test.ensures) in
    let none = c.loop-word.invariant.0 ∙ no_words bs empty in
    record {
      steps = (none, no_words bs empty);
      goes = record { on = λ _. tt; keeps = tt; rests = λ _. tt };
      word = sym (ap first none);
      after = no_words bs empty ∙ sym (ap (drop 1) none);
      bytes = sym (ap (behind Blank) c.loop-word.invariant.1 ∙ unblanked_none bs empty);
    }
