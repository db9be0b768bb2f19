-- What a reader's answer says.
use Rattle.std.specs.Prelude.{ℕ, List, Ok, Err, Result}
use Rattle.octets.specs.declared.fault.Fault.{Fault}
use Rattle.octets.specs.declared.cursor.Cursor.{Cursor}
use Rattle.octets.specs.Faults.{number}
use Rattle.octets.specs.Parse.{Got, Read, Bad}

-- what a cursor has not read yet
abbrev pub rest : Cursor → List ℕ
rest c = c.bytes.now

-- an answer, with what is left to read then
abbrev pub told : {X : Type 0} → Result X Fault → List ℕ → Got X
told (Ok x) left = Read x left
told (Err e) left = Bad (number e)

-- the same, where f is what the value means
abbrev pub told_as : {X Y : Type 0} → (X → Y) → Result X Fault → List ℕ → Got Y
told_as f (Ok x) left = Read (f x) left
told_as f (Err e) left = Bad (number e)
