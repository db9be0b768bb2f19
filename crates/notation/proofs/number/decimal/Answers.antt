-- One digit more, a byte that is no digit, and the end.
use Rattle.std.proofs.Common.{◌≡◌, true, false, length, get_or, rules, sym, ◌∙◌, arith}
use Rattle.std.proofs.lemmas.Bool.{eqb-false}
use Rattle.notation.specs.Numbers.{is_digit}
use Rattle.notation.proofs.Numerals.{digit_more, digit_stop, digit_end, number_some}
use Rattle.notation.proofs.number.decimal.Goals as goal

pub returns-then-not-is_ascii_digit : goal.returns-then-not-is_ascii_digit
returns-then-not-is_ascii_digit c =
    let word = c.args.word.now in
    let i = c.loop-b.b-index in
    let none : is_digit (get_or word i 0) ≡ false = search rules in
    record {
      value = digit_stop c.loop-b.n word i (omega arith) none ∙ c.loop-b.invariant.0 ∙ number_some word (omega (arith, eqb-false (length word) 0 (sym c.if-is_empty.ensures)));
    }

pub loop-b-preserved : goal.loop-b-preserved
loop-b-preserved c =
    let word = c.args.word.now in
    let i = c.loop-b.b-index in
    let b = get_or word i 0 in
    let digit : is_digit b ≡ true = search rules in
    (digit_more c.loop-b.n c.saturating_add-n.result word i (omega arith) digit (omega arith) ∙ c.loop-b.invariant.0, omega arith)

pub returns : goal.returns
returns c =
    let word = c.args.word.now in
    let i = c.loop-b.b-index in
    record {
      value = digit_end c.loop-b.n word i (omega arith) (omega arith) ∙ c.loop-b.invariant.0 ∙ number_some word (omega (arith, eqb-false (length word) 0 (sym c.if-is_empty.ensures)));
    }
