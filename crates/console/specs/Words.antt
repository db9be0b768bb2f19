-- What the words behind a program's name ask for: options come first, then files.
use Rattle.std.specs.Prelude.{ℕ, Bool, cond, ◌&&◌, List, [], ◌∷◌, map, string_bytes, codes, ◌==◌, slice_index}
use Rattle.std.specs.Str.{bytes_eq}
use Rattle.console.specs.declared.arguments.Word.{Word}
use Rattle.console.specs.declared.arguments.Word.TheVariants.{AskHelp, AskBytes, Unknown, File}
use Rattle.console.specs.declared.arguments.Asked.{Asked}
use Rattle.console.specs.declared.arguments.Asked.TheVariants.{Help, Run, Wrong}
use Rattle.console.specs.declared.input.Writing.{Writing}
use Rattle.console.specs.declared.input.Writing.TheVariants.{Bytes}

-- how the program is used, texts in these files, or an option that the program has not
pub data Wanted : Type 0 where
  Usage : Wanted
  Texts : Writing → List (List ℕ) → Wanted
  Misuse : Wanted

abbrev pub told : Asked → Wanted
told Help = Usage
told (Run writing files) = Texts writing (map string_bytes files.now)
told Wrong = Misuse

-- a word is an option if it begins with a hyphen
abbrev pub is_option : List ℕ → Bool
is_option w = slice_index w 0 == 45

-- `may`: whether `--bytes` is an option of the program
abbrev pub word_of : Bool → List ℕ → Word
word_of may w =
    cond (bytes_eq w (codes "--help")) AskHelp (cond (may && bytes_eq w (codes "--bytes")) AskBytes (cond (is_option w) Unknown File))

-- this word is the first that may be none; `all`: it and those behind it; `more`: what is asked for if it is an option too
abbrev pub by_word : Word → Writing → List (List ℕ) → Wanted → Wanted
by_word AskHelp writing all more = Usage
by_word AskBytes writing all more = more
by_word Unknown writing all more = Misuse
by_word File writing all more = Texts writing all

abbrev pub asked : Bool → Writing → List (List ℕ) → Wanted
asked may writing [] = Texts writing []
asked may writing (w ∷ ws) = by_word (word_of may w) writing (w ∷ ws) (asked may Bytes ws)
