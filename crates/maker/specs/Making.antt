-- What is made of pairs: a table in words, or the news that a table on the way is too long, or that a leaf has too many copies.
use Rattle.std.specs.Prelude.{◌≡◌, ℕ, ◌*◌, ◌<◌, ◌≤◌, true, false, List, length, take, Some, None, Option, Ok, Err, Result}
use Rattle.octets.specs.declared.fault.Fault.{Fault}
use Rattle.octets.specs.declared.fault.Fault.TheVariants as faults
use Rattle.packet.specs.Policy.{Policy}
use Rattle.packet.specs.Table.{Want, Table}
use Rattle.prescribed.specs.Table.{joined, table_from}
use Rattle.prescribed.specs.Fit.{leaves, crowded, long}
use Rattle.table.specs.Words.{encode}
use Rattle.table.specs.Good.{Each, GoodRule}
use Rattle.maker.specs.declared.size.Size.{Size}

-- a table's size, or none where a table on the way is too long
abbrev pub Made : Type 0
Made = Option Size

-- the table t is the first n words, and has m rules, at most 8,192, all of them within the limits of a rule
pub record Written (t : Table) (words : List ℕ) (n m : ℕ) : Type 0 where
  pub front : take n words ≡ encode t
  pub count : m ≡ length t
  pub few : m ≤ 8192
  pub good : Each GoodRule t

-- Y and N, that is s and t, were written with at most `room` words
abbrev pub JoinedAs : ℕ → Table → Table → ℕ → List ℕ → Made → Type 0
JoinedAs f s t room words (Some z) = (z.words ≤ room) × Written (joined f s t) words z.words z.rules
JoinedAs f s t room words None = 8192 < length (joined f s t)

-- the most words of a rule: 8 wants, and 16 outs of 8 settings
abbrev pub rule_room : ℕ
rule_room = 290

-- of the pairs ws, where `known` is known
abbrev pub MadeOf : Policy → List Want → List Want → List ℕ → Result Made Fault → Type 0
MadeOf a ws known words (Ok (Some z)) =
    (crowded a ws known ≡ false) × (long a ws known ≡ false) × (z.words ≤ rule_room * leaves ws known) × Written (table_from a ws known) words z.words z.rules
MadeOf a ws known words (Ok None) = (crowded a ws known ≡ false) × (long a ws known ≡ true)
MadeOf a ws known words (Err fault) = (crowded a ws known ≡ true) × (fault ≡ faults.Copies)
