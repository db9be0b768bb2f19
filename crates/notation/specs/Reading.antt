-- Reading off a list of words: what was read, with the words behind it, or the number of the first fault.
use Rattle.std.specs.Prelude.{ℕ, Bool, true, false, List, [], ◌∷◌, Some, None, Option, nat_le}
use Rattle.notation.specs.Numbers.{number_of}
use Rattle.notation.specs.Words.{Word}

pub data Got (X : Type 0) : Type 0 where
  Read : X → List Word → Got X
  Bad : ℕ → Got X

-- go on with what was read
abbrev pub and_then : {X Y : Type 0} → Got X → (X → List Word → Got Y) → Got Y
and_then (Read x ws) f = f x ws
and_then (Bad n) f = Bad n

-- what was read passes a test, or else it is the fault n
abbrev pub check : {X : Type 0} → Bool → ℕ → X → List Word → Got X
check true n x ws = Read x ws
check false n x ws = Bad n

abbrev pub or_form : Option ℕ → List Word → Got ℕ
or_form None ws = Bad 1
or_form (Some n) ws = Read n ws

-- the next word is a number
abbrev pub numeral : List Word → Got ℕ
numeral [] = Bad 1
numeral (w ∷ ws) = or_form (number_of w) ws

-- the next word is a number of at most `most`; a larger one is the fault n
abbrev pub up_to : ℕ → ℕ → List Word → Got ℕ
up_to most n ws = and_then (numeral ws) (λ x r. check (nat_le x most) n x r)

-- nothing may follow
abbrev pub ended : {X : Type 0} → X → List Word → Got X
ended x [] = Read x []
ended x (w ∷ ws) = Bad 1
