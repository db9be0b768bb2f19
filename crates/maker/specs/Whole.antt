-- What the recursion makes of a whole text.
use Rattle.std.specs.Prelude.{◌≡◌, ℕ, ◌-◌, ◌<◌, ◌≤◌, List, ◌++◌, length, take, replicate, Ok, Err, Result}
use Rattle.octets.specs.declared.fault.Fault.{Fault}
use Rattle.octets.specs.Faults.{number}
use Rattle.packet.specs.Policy.{Policy}
use Rattle.prescribed.specs.Table.{table_of}
use Rattle.prescribed.specs.Fit.{fault_of}
use Rattle.table.specs.Words.{encode}
use Rattle.table.specs.Good.{Good}

-- the table is the first n words, or the fault is the text's
pub record Table (a : Policy) (words : List ℕ) (n : ℕ) : Type 0 where
  pub fits : fault_of a ≡ 0
  pub front : take n words ≡ encode (table_of a)
  pub size : n ≡ length (encode (table_of a))
  pub within : n ≤ length words
  pub good : Good (table_of a)

abbrev pub WholeOf : Policy → List ℕ → Result ℕ Fault → Type 0
WholeOf a words (Ok n) = Table a words n
WholeOf a words (Err f) = (number f ≡ fault_of a) × (0 < fault_of a)

-- the table's words and then zeros, in all so many words; after a fault zeros alone
abbrev pub Put : Policy → ℕ → List ℕ → Result ℕ Fault → Type 0
Put a lent after (Ok n) =
    (fault_of a ≡ 0) × (n ≡ length (encode (table_of a))) × (after ≡ encode (table_of a) ++ replicate (lent - n) 0) × Good (table_of a)
Put a lent after (Err f) = (number f ≡ fault_of a) × (0 < fault_of a) × (after ≡ replicate lent 0)
