-- What readers leave in the words that they are lent.
--   written out at ws   the words ws over those of `out` from the place `at` on; what has no place there is left out
--   Gave code reader was is r   what a filler is, and answers, after it wrote the words of what the reader reads
--   Put w was is        what a filler is after it wrote a word
--   Wrote ..            what is left in the words, and answered, after the words of a table were written over them
--   sized got           the number of words of the table that is read
--   Stored ..           what is answered, and is left in all the words, after a table was to be read into them
use Rattle.std.specs.Prelude.{◌≡◌, ℕ, ◌+◌, List, [], ◌∷◌, ◌++◌, length, drop, Ok, Err, MatchBool, Result, nat_le, slice_set}
use Rattle.octets.specs.Parse.{Got, Read, Bad, and_then}
use Rattle.octets.specs.Faults.{number}
use Rattle.octets.specs.declared.fault.Fault.{Fault}
use Rattle.octets.specs.declared.fault.Fault.TheVariants.{Memory}
use Rattle.packet.specs.Table.{Table}
use Rattle.tablebytes.specs.declared.filler.Filler.{Filler}
use Rattle.table.specs.Words.{encode}

abbrev pub written : List ℕ → ℕ → List ℕ → List ℕ
written out at [] = out
written out at (w ∷ ws) = written (slice_set out at w) (at + 1) ws

-- `got` is what the definition reads, and `left` what is left to read
pub record Filled {X : Type 0} (code : X → List ℕ) (got : Got X) (left : List ℕ) (at : ℕ) (before after : List ℕ) (end : ℕ) : Type 0 where
  pub what : X
  pub read : got ≡ Read what left
  pub place : end ≡ at + length (code what)
  pub words : after ≡ written before at (code what)

abbrev pub Gave : {X : Type 0} → (X → List ℕ) → (List ℕ → Got X) → Filler → Filler → Result (Unit {0}) Fault → Type 0
Gave code reader was is (Ok done) =
    Filled code (reader was.bytes.now) is.bytes.now was.count was.out.now is.out.now is.count × (is.out.ghost_name ≡ was.out.ghost_name)
Gave code reader was is (Err fault) = reader was.bytes.now ≡ Bad (number fault)

-- a word more
pub record Put (word : ℕ) (was is : Filler) : Type 0 where
  pub count : is.count ≡ was.count + 1
  pub out : is.out.now ≡ slice_set was.out.now was.count word
  pub same : is.out.ghost_name ≡ was.out.ghost_name

-- the words of the table that is read, from the front on
abbrev pub Wrote : Got Table → List ℕ → List ℕ → Result ℕ Fault → Type 0
Wrote got before after (Ok n) = (left : List ℕ) × Filled encode got left 0 before after n
Wrote got before after (Err fault) = got ≡ Bad (number fault)

abbrev pub sized : Got Table → Got ℕ
sized got = and_then got (λ t rest. Read (length (encode t)) rest)

abbrev pub Refused : ℕ → Result ℕ Fault → Type 0
Refused n (Ok end) = ⊥
Refused n (Err fault) = number fault ≡ n

-- a fault changes nothing; too few words change nothing, and have no number; else the table's words stand in front
abbrev pub Stored : Got Table → List ℕ → List ℕ → Result ℕ Fault → Type 0
Stored (Bad n) before after r = Refused n r × (after ≡ before)
Stored (Read t rest) before after r =
    MatchBool (nat_le (length (encode t)) (length before))
    ((r ≡ Ok (length (encode t))) × (after ≡ encode t ++ drop (length (encode t)) before))
    ((r ≡ Err Memory) × (after ≡ before))
