-- What is said of a refusal: the line where one is at fault, the number and the cause.
use Rattle.std.specs.Prelude.{ℕ, cond, List, ◌++◌, Some, None, codes, decimal, Option, ◌==◌}
use Rattle.octets.specs.Faults.{number, cause_of}
use Rattle.notation.specs.declared.reader.Refusal.{Refusal}

-- the line of the input, where one is at fault
abbrev pub place_of : Option ℕ → List ℕ
place_of None = codes ""
place_of (Some n) = codes "line " ++ (decimal n ++ codes ": ")

-- want of memory has no number
abbrev pub said_of : ℕ → List ℕ → List ℕ
said_of n cause = cond (n == 0) cause (codes "refused " ++ (decimal n ++ (codes ": " ++ cause)))

abbrev pub refusal_text : Refusal → List ℕ
refusal_text r = place_of r.line ++ said_of (number r.fault) (cause_of r.fault)
