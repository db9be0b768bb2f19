-- What a reader's answer says.
use Rattle.std.specs.Prelude.{List, [], Ok, Err, Result}
use Rattle.octets.specs.declared.fault.Fault.{Fault}
use Rattle.octets.specs.Faults.{number}
use Rattle.text.specs.declared.texts.Text.{Text}
use Rattle.text.specs.Texts.{nodes_of, drafted}
use Rattle.notation.specs.declared.reader.Refusal.{Refusal}
use Rattle.notation.specs.declared.reader.Reader.{Reader}
use Rattle.notation.specs.Words.{Word}
use Rattle.notation.specs.Reading.{Got, Read, Bad}
use Rattle.notation.specs.Operands.{Sofar}
use Rattle.notation.specs.Notation.{Outcome, Whole, Refused}

-- an answer, with the words that are left to read then
abbrev pub told : {X : Type 0} → Result X Fault → List Word → Got X
told (Ok x) ws = Read x ws
told (Err e) ws = Bad (number e)

abbrev pub sofar : Reader → Sofar
sofar r = record { nodes = drafted r.draft; used = r.used.flags }

-- an answer, with what the reader has then
abbrev pub grown : {X : Type 0} → Result X Fault → Reader → Got Sofar
grown (Ok x) r = Read (sofar r) []
grown (Err e) r = Bad (number e)

abbrev pub outcome : Result Text Refusal → Outcome
outcome (Ok t) = Whole (nodes_of t)
outcome (Err e) = Refused (number e.fault) e.line
