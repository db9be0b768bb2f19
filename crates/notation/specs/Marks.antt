-- Bytes that end a part of the input: a line, a node, a comment's front, a word.
use Rattle.std.specs.Prelude.{ℕ, Bool, cond, ◌||◌, List, [], ◌∷◌, ◌==◌}
use Rattle.notation.specs.declared.marks.Mark.{Mark}
use Rattle.notation.specs.declared.marks.Mark.TheVariants.{Newline, Semicolon, Hash, Blank}

abbrev pub marks : Mark → ℕ → Bool
marks Newline b = b == 10
marks Semicolon b = b == 59
marks Hash b = b == 35
marks Blank b = b == 32 || (b == 9 || b == 13)

-- the bytes before the first mark, all if there is none
unfoldable pub before : Mark → List ℕ → List ℕ
before m [] = []
before m (b ∷ bs) = cond (marks m b) [] (b ∷ before m bs)

-- the bytes behind the first mark, none if there is none
unfoldable pub behind : Mark → List ℕ → List ℕ
behind m [] = []
behind m (b ∷ bs) = cond (marks m b) bs (behind m bs)

-- one byte more in front of the first part
abbrev pub onto : ℕ → List (List ℕ) → List (List ℕ)
onto b [] = (b ∷ []) ∷ []
onto b (p ∷ ps) = (b ∷ p) ∷ ps

-- the parts that marks end; what is behind the last mark is one more, unless it is empty
unfoldable pub parts : Mark → List ℕ → List (List ℕ)
parts m [] = []
parts m (b ∷ bs) = cond (marks m b) ([] ∷ parts m bs) (onto b (parts m bs))
