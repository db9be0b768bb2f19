-- The lines that a program writes to standard error, without the end of the line.
use Rattle.std.specs.Prelude.{ℕ, List, ◌++◌, codes}
use Rattle.notation.specs.declared.reader.Refusal.{Refusal}
use Rattle.notation.specs.Refusals.{refusal_text}

abbrev pub refusal_line : List ℕ → Refusal → List ℕ
refusal_line program refusal = program ++ (codes ": " ++ refusal_text refusal)

abbrev pub unreadable_line : List ℕ → List ℕ → List ℕ
unreadable_line program file = program ++ (codes ": " ++ (file ++ codes ": can't be read"))

abbrev pub misused_line : List ℕ → List ℕ → List ℕ
misused_line program usage = program ++ (codes ": bad arguments; usage: " ++ usage)
