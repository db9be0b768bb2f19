-- What a switch in memory stands for in the run, with the tables that lie in its places.
use Rattle.std.specs.Prelude.{◌≡◌, ℕ, ◌<◌, true, false, not, ◌&&◌, List, [], ◌∷◌, ◌++◌, length, Some, None, Ok, Err, Option, Result, nat_le}
use Rattle.packet.specs.Table.{Table}
use Rattle.run.specs.At.{at}
use Rattle.run.specs.Switch as run
use Rattle.run.specs.Switch.{install, knows, table_of}
use Rattle.switch.specs.declared.Switch.{Switch}
use Rattle.switch.specs.declared.versions.Versions.{Versions}
use Rattle.switch.specs.declared.versions.Full.{Full}
use Rattle.switch.specs.declared.steps.Installed.{Installed}
use Rattle.switch.specs.Holding.{Places, all_of, held_in, slots}
use Rattle.switch.specs.Marking.{latest_of}

abbrev pub one : ℕ → Table → run.Held
one v t = record { version = v; table = t }

abbrev pub held_of : Places → Versions → List run.Held
held_of tables s = all_of tables (held_in s.held)

abbrev pub switch_of : Places → Switch → run.Switch
switch_of tables s = record { held = held_of tables s.versions; stamp = s.stamp; floor = s.floor; latest = latest_of s.marks }

-- the table of version v lies in the place that is named; none is where v is not there
abbrev pub Lies : ℕ → List run.Held → Places → Option ℕ → Type 0
Lies v xs tables None = knows v xs ≡ false
Lies v xs tables (Some p) = (knows v xs ≡ true) × (table_of v xs ≡ tables p)

-- r is s with version v as well, whose table goes into place p
pub record Added (v : ℕ) (s r : Versions) (p : ℕ) : Type 0 where
  pub within : p < slots
  pub after : (tables : Places) (t : Table) → held_of (at p t tables) r ≡ held_of tables s ++ (one v t ∷ [])

-- what comes of version v: nothing where the run's switch stays as it is, a new state with a place to be filled, or nothing since all places are in use
abbrev pub TookIn : ℕ → Switch → Result (Option Installed) Full → Type 0
TookIn v s (Ok None) = (tables : Places) (t : Table) → install v t (switch_of tables s) ≡ switch_of tables s
TookIn v s (Ok (Some x)) = (x.place < slots) × ((tables : Places) (t : Table) → switch_of (at x.place t tables) x.switch ≡ install v t (switch_of tables s))
TookIn v s (Err e) = (tables : Places) → (length (held_of tables s.versions) ≡ slots) × ((nat_le s.floor v && not (knows v (held_of tables s.versions))) ≡ true)
