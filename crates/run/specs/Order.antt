-- Orders, which the desk gives to switches, and the answers to them.
use Rattle.std.specs.Prelude.{ℕ}
use Rattle.packet.specs.Table.{Table}

-- Install: take in the table of a version. Stamp: give the version to what comes in from outside.
-- Round: put a mark on every cable. Remove: throw the table of a version away
pub data Order : Type 0 where
  Install : (v : ℕ) (t : Table) → Order
  Stamp : (v : ℕ) → Order
  Round : (v r : ℕ) → Order
  Remove : (v : ℕ) → Order

pub data Answer : Type 0 where
  Installed : (v : ℕ) → Answer
  Stamped : (v : ℕ) → Answer
  Reached : (v r : ℕ) → Answer
  Removed : (v : ℕ) → Answer

abbrev pub answer_to : Order → Answer
answer_to (Install v t) = Installed v
answer_to (Stamp v) = Stamped v
answer_to (Round v r) = Reached v r
answer_to (Remove v) = Removed v
