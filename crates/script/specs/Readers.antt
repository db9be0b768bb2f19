-- What a reader's answer says. Want of memory is no fault of the input, and says nothing of it.
use Rattle.std.specs.Prelude.{◌≡◌, ◌⊎◌, List, Some, None, Ok, Err, Option, Result}
use Rattle.octets.specs.declared.fault.Fault.{Fault}
use Rattle.octets.specs.declared.fault.Fault.TheVariants.{Form, Memory}
use Rattle.octets.specs.Faults.{number}
use Rattle.hex.specs.declared.error.FromHexError.{FromHexError}
use Rattle.hex.specs.declared.error.FromHexError.TheVariants.{InvalidHexCharacter, OddLength, InvalidStringLength, OutOfMemory}
use Rattle.notation.specs.Words.{Word}
use Rattle.notation.specs.Reading.{Got, Read, Bad}

-- what a word writes, where f is what the value means; a word that writes nothing is the fault 1
abbrev pub Gives : {X Y : Type 0} → (X → Y) → Result X Fault → Option Y → Type 0
Gives f (Ok x) o = Some (f x) ≡ o
Gives f (Err e) o = (e ≡ Memory) ⊎ ((e ≡ Form) × (None ≡ o))

-- what words write, with the words that are left then
abbrev pub Says : {X Y : Type 0} → (X → Y) → Result X Fault → List Word → Got Y → Type 0
Says f (Ok x) ws g = Read (f x) ws ≡ g
Says f (Err e) ws g = (e ≡ Memory) ⊎ (Bad (number e) ≡ g)

-- the same where no memory is asked for
abbrev pub told_as : {X Y : Type 0} → (X → Y) → Result X Fault → List Word → Got Y
told_as f (Ok x) ws = Read (f x) ws
told_as f (Err e) ws = Bad (number e)

-- why digits write no bytes
abbrev pub fault_of : FromHexError → Fault
fault_of OutOfMemory = Memory
fault_of (InvalidHexCharacter c i) = Form
fault_of OddLength = Form
fault_of InvalidStringLength = Form
