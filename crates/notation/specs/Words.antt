-- The words of a line: what stands between blanks.
use Rattle.std.specs.Prelude.{ℕ, Bool, true, false, cond, List, [], ◌∷◌, Some, None, filter, Option}
use Rattle.std.specs.Borrow.{Bor}
use Rattle.notation.specs.declared.marks.Mark.TheVariants.{Blank}
use Rattle.notation.specs.declared.words.Words.{Words}
use Rattle.notation.specs.Marks.{marks, parts}

abbrev pub Word : Type 0
Word = List ℕ

abbrev pub some : {X : Type 0} → List X → Bool
some [] = false
some (x ∷ xs) = true

abbrev pub words_of : List ℕ → List Word
words_of bs = filter some (parts Blank bs)

abbrev pub first : List Word → Option Word
first [] = None
first (w ∷ ws) = Some w

-- bytes from the first one on that is no blank
unfoldable pub unblanked : List ℕ → List ℕ
unblanked [] = []
unblanked (b ∷ bs) = cond (marks Blank b) (unblanked bs) (b ∷ bs)

-- the words that were not read yet
unfoldable pub left : Words → List Word
left w = words_of w.bytes.now

abbrev pub word_in : Option (Bor Word) → Option Word
word_in None = None
word_in (Some w) = Some w.now
