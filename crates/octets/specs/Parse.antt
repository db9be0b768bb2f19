-- Reading numbers off a list of bytes: what was read, with the bytes behind it, or the number of the first fault.
use Rattle.std.specs.Prelude.{ℕ, ◌+◌, ◌*◌, ◌/◌, ◌%◌, ◌<◌, Bool, true, false, ◌&&◌, List, [], ◌∷◌, nat_eq, nat_le, nat_lt}

pub data Got (X : Type 0) : Type 0 where
  Read : X → List ℕ → Got X
  Bad : ℕ → Got X

-- go on with what was read
abbrev pub and_then : {X Y : Type 0} → Got X → (X → List ℕ → Got Y) → Got Y
and_then (Read x bs) f = f x bs
and_then (Bad n) f = Bad n

-- what was read passes a test, or else it is the fault n
abbrev pub check : {X : Type 0} → Bool → ℕ → X → List ℕ → Got X
check true n x bs = Read x bs
check false n x bs = Bad n

-- a number of one byte, and one of two with the high byte first
abbrev pub byte : List ℕ → Got ℕ
byte [] = Bad 1
byte (b ∷ bs) = Read b bs

abbrev pub word : List ℕ → Got ℕ
word [] = Bad 1
word (a ∷ []) = Bad 1
word (a ∷ (b ∷ bs)) = Read (a * 256 + b) bs

-- what a list of bytes is
abbrev pub Bytes : List ℕ → Type 0
Bytes [] = Unit {0}
Bytes (b ∷ bs) = (b < 256) × Bytes bs

-- nothing may follow
abbrev pub ended : {X : Type 0} → X → List ℕ → Got X
ended x [] = Read x []
ended x (b ∷ bs) = Bad 1

-- the bytes of a word
abbrev pub word_bytes : ℕ → List ℕ
word_bytes v = v / 256 ∷ (v % 256 ∷ [])

-- The numbers that messages are made of. Each is tested as soon as it is read.

-- a number that passes a test, or else it is a fault
abbrev pub tested : (List ℕ → Got ℕ) → (ℕ → Bool) → ℕ → List ℕ → Got ℕ
tested reader test fault bs = and_then (reader bs) (λ x r. check (test x) fault x r)

-- the kind that is wanted
abbrev pub kind : ℕ → List ℕ → Got ℕ
kind wanted = tested byte (λ k. nat_eq k wanted) 1

abbrev pub between : ℕ → ℕ → List ℕ → Got ℕ
between low high = tested byte (λ x. nat_le low x && nat_le x high) 2

-- a field, a switch, a port, a count of hops: below n
abbrev pub below : ℕ → List ℕ → Got ℕ
below n = tested byte (λ i. nat_lt i n) 2

-- a whole message: nothing may follow
abbrev pub alone : {X : Type 0} → (List ℕ → Got X) → List ℕ → Got X
alone reader bs = and_then (reader bs) ended
