-- Reading and writing tables undo each other, and a reader accepts just what the writer makes.
use Rattle.std.specs.Prelude.{◌≡◌, ℕ, ◌<◌, ◌≤◌, List, [], ◌++◌, length, take}
use Rattle.octets.specs.Parse.{Read, Bad, Bytes}
use Rattle.packet.specs.Table.{Table}
use Rattle.table.specs.Bytes.{table_bytes}
use Rattle.table.specs.Good.{Good}
use Rattle.table.specs.Words.{encode}
use Rattle.tablebytes.specs.Format.{table, alone}

-- what was written reads as the same table, whatever follows
abbrev pub ReadsBack : Type 0
ReadsBack = (t : Table) (rest : List ℕ) → Good t → table (table_bytes t ++ rest) ≡ Read t rest

-- what reads as a table is within the limits, and was written so
abbrev pub WritesBack : Type 0
WritesBack = (bs rest : List ℕ) (t : Table) → Bytes bs → table bs ≡ Read t rest → Good t × (bs ≡ table_bytes t ++ rest)

-- no proper front of a table reads: it is cut short
abbrev pub NoFront : Type 0
NoFront = (bs : List ℕ) (t : Table) (k : ℕ) → alone bs ≡ Read t [] → k < length bs → alone (take k bs) ≡ Bad 1

-- so many words are enough for every table
abbrev pub Enough : Type 0
Enough = (bs rest : List ℕ) (t : Table) → table bs ≡ Read t rest → length (encode t) ≤ 593920
