-- What marks in memory stand for in the run.
-- mark_of: a mark. latest_of: the latest marks by port. Drawn: which ports have a cable.
use Rattle.std.specs.Prelude.{◌≡◌, ℕ, ◌<◌, Bool, false, cond, List, length, slice_index_or}
use Rattle.run.specs.At.{at}
use Rattle.run.specs.Net.{Wire}
use Rattle.run.specs.Switch as run
use Rattle.run.specs.Switch.{is_cable, later}
use Rattle.wire.specs.declared.mark.Mark.{Mark}
use Rattle.switch.specs.declared.marks.Marks.{Marks}

-- how many ports a switch can have
abbrev pub ports : ℕ
ports = 32

abbrev pub mark_of : Mark → run.Mark
mark_of m = run.mark_of m.version m.round

abbrev pub no_mark : Mark
no_mark = record { version = 0; round = 0 }

abbrev pub no_marks : ℕ → run.Mark
no_marks p = run.mark_of 0 0

abbrev pub latest_of : Marks → ℕ → run.Mark
latest_of s p = mark_of (slice_index_or s.latest p no_mark)

-- m comes in at port p, and is kept if it is later than the latest there
abbrev pub kept : ℕ → run.Mark → (ℕ → run.Mark) → ℕ → run.Mark
kept p m latest = cond (later m (latest p)) (at p m latest) latest

-- the list says of each port whether a cable hangs on it
abbrev pub Drawn : List Bool → (ℕ → Wire) → Type 0
Drawn cables wire = (p : ℕ) → p < length cables → is_cable (wire p) ≡ slice_index_or cables p false
