-- Lines of a script behind `start`, and the text that a line in either part brings.
use Rattle.std.specs.Prelude.{ℕ, cond, List, [], ◌∷◌, Some, None, codes, Option}
use Rattle.notation.specs.declared.marks.Mark.TheVariants.{Hash, Blank}
use Rattle.notation.specs.Marks.{before, behind}
use Rattle.notation.specs.Kinds.{same_word}
use Rattle.notation.specs.Words.{Word, words_of, unblanked}
use Rattle.notation.specs.Reading.{Got, Read, Bad, and_then, ended}
use Rattle.script.specs.declared.line.TextLine.{TextLine}
use Rattle.script.specs.declared.line.Line as declared
use Rattle.script.specs.declared.line.Line.TheVariants as line
use Rattle.script.specs.declared.step.verbs.Verb.{Verb}
use Rattle.script.specs.Verbs.{verb_of}
use Rattle.script.specs.Steps as steps
use Rattle.script.specs.Steps.{typed, of_verb, step_of}

-- a text for a switch: its nodes are not read yet
pub record Text : Type 0 where
  pub switch : ℕ
  pub nodes : List ℕ

pub data Line : Type 0 where
  Nothing : Line
  Brings : Text → Line
  Plays : steps.Step → Line

abbrev pub text_of : TextLine → Text
text_of t = record { switch = t.switch; nodes = t.nodes.now }

abbrev pub line_of : declared.Line → Line
line_of line.Nothing = Nothing
line_of (line.Text t) = Brings (text_of t)
line_of (line.Step s) = Plays (step_of s)

-- the bytes behind the first word and the blank that ends it
abbrev pub after_word : List ℕ → List ℕ
after_word bs = behind Blank (unblanked bs)

-- behind the word `text`: a switch, and all the rest; bs are the bytes whose words are ws
abbrev pub text_in : List ℕ → List Word → Got Text
text_in bs ws = and_then (typed ws) (λ i r. Read (record { switch = i; nodes = after_word bs }) [])

abbrev pub or_step : Option Verb → List Word → Got Line
or_step None ws = Bad 1
or_step (Some v) ws = and_then (and_then (of_verb v ws) ended) (λ s r. Read (Plays s) r)

-- the first word, and behind it the bytes bs, whose words are ws
abbrev pub worded : Word → List ℕ → List Word → Got Line
worded w bs ws = cond (same_word w (codes "text")) (and_then (text_in bs ws) (λ t r. Read (Brings t) r)) (or_step (verb_of w) ws)

-- the bytes of a line up to its comment, and its words
abbrev pub words_in : List ℕ → List Word → Got Line
words_in bs [] = Read Nothing []
words_in bs (w ∷ ws) = worded w (after_word bs) ws

abbrev pub line_in : List ℕ → Got Line
line_in bs = words_in (before Hash bs) (words_of (before Hash bs))
