use Rattle.std.proofs.Common.{◌≡◌, ℕ, List, [], ◌∷◌, Some, drop, ap, ◌∙◌, subst}
use Rattle.notation.specs.Words.{Word, first, words_of, left}
use Rattle.script.specs.Readers.{Says}
use Rattle.script.specs.Lines.{line_of, after_word, worded, words_in}
use Rattle.script.proofs.line.reads.read.Goals as goal

-- the first of the words, and the words and the bytes behind it
first_word : (bs behind : List ℕ) (w : Word) (all ws : List Word) → Some w ≡ first all → ws ≡ drop 1 all → behind ≡ after_word bs → worded w behind ws ≡ words_in bs all
first_word bs behind w [] ws is rest e = cc
first_word bs behind w (v ∷ vs) ws is rest e =
    let same : w ≡ v = cc in
    λ i. worded (same i) (e i) (rest i)

pub returns : goal.returns
returns c =
    let words = c.new-words.result in
    let front = c.new-words.ensures.bytes ∙ c.cut.ensures.front in
    let all = c.new-words.ensures.words ∙ ap words_of c.cut.ensures.front in
    let whole =
    first_word words.bytes.now c.next.new.self.bytes.now c.in-Some.word.now (left words) (left c.next.new.self) c.in-Some.ensures.word c.in-Some.ensures.after c.in-Some.ensures.bytes
    ∙ (λ i. words_in (front i) (all i)) in
    record { value = subst (Says line_of c.of_words.result []) whole c.of_words.ensures.value }
