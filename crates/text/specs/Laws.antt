-- Reading and writing texts undo each other, and a reader accepts just what the writer makes.
use Rattle.std.specs.Prelude.{◌≡◌, ℕ, ◌<◌, ◌≤◌, true, List, [], ◌++◌, length, take}
use Rattle.octets.specs.Parse.{Read, Bad, Bytes}
use Rattle.text.specs.Nodes.{sound}
use Rattle.text.specs.Format.{Assignment, text, alone, text_bytes}

-- a text that one of n switches can have
pub record Good (n : ℕ) (a : Assignment) : Type 0 where
  pub there : a.switch < n
  pub some : 1 ≤ length a.nodes
  pub few : length a.nodes ≤ 512
  pub sound : sound [] a.nodes ≡ true

-- what was written reads as the same text, whatever follows
abbrev pub ReadsBack : Type 0
ReadsBack = (n : ℕ) (a : Assignment) (rest : List ℕ) → Good n a → text n (text_bytes a.switch a.nodes ++ rest) ≡ Read a rest

-- what reads as a text is a good one, and was written so
abbrev pub WritesBack : Type 0
WritesBack =
    (n : ℕ) (bs rest : List ℕ) (a : Assignment) → Bytes bs → text n bs ≡ Read a rest →
    Good n a × (bs ≡ text_bytes a.switch a.nodes ++ rest)

-- no proper front of a text reads: it is cut short
abbrev pub NoFront : Type 0
NoFront = (n : ℕ) (bs : List ℕ) (a : Assignment) (k : ℕ) → alone n bs ≡ Read a [] → k < length bs → alone n (take k bs) ≡ Bad 1
