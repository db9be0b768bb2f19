-- The versions that a switch holds, and where their tables lie.
-- Tables lie in places: a function from places to tables stands for the memory that a switch is lent. all_of: what the run's switch holds.
use Rattle.std.specs.Prelude.{ℕ, Bool, List, map, Option, ◌==◌, nat_lt}
use Rattle.std.specs.List.{flat_map, list_all, list_any}
use Rattle.std.specs.Option.{option_to_list}
use Rattle.packet.specs.Table.{Table}
use Rattle.run.specs.Switch as run
use Rattle.switch.specs.declared.versions.Held.{Held}

-- how many places there are
abbrev pub slots : ℕ
slots = 2

abbrev pub Places : Type 0
Places = ℕ → Table

abbrev pub one_of : Places → Held → run.Held
one_of tables x = record { version = x.version; table = tables x.place }

abbrev pub all_of : Places → List Held → List run.Held
all_of tables xs = map (one_of tables) xs

-- those in a row in which entries may be empty
abbrev pub held_in : List (Option Held) → List Held
held_in row = flat_map option_to_list row

-- each place is there
abbrev pub placed : List Held → Bool
placed xs = list_all (λ x. nat_lt x.place slots) xs

abbrev pub used : ℕ → List Held → Bool
used p xs = list_any (λ x. x.place == p) xs
