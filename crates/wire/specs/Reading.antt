-- What each call of a reader of one item does: it takes the step, in a net of n switches with so many ports.
use Rattle.std.specs.Prelude.{◌≡◌, ℕ, List, Result}
use Rattle.std.specs.Borrow.{MutBor}
use Rattle.octets.specs.declared.cursor.Cursor.{Cursor}
use Rattle.octets.specs.declared.fault.Fault.{Fault}
use Rattle.octets.specs.Parse.{Got}
use Rattle.octets.specs.Readers.{told_as, rest}
use Rattle.wire.specs.declared.net.Net.{Net}
use Rattle.wire.specs.Nets.{wires_in, Alike}
use Rattle.wire.specs.Wires.{Wires}

abbrev pub Reads : ℕ → ℕ → (MutBor Cursor → MutBor Net → Result (Unit {0}) Fault → MutBor Cursor → MutBor Net → Type 0) → (Wires → List ℕ → Got Wires) → Type 0
Reads n ports Call step =
    (c : MutBor Cursor) (net : MutBor Net) (r : Result (Unit {0}) Fault) (c' : MutBor Cursor) (net' : MutBor Net) →
    net.now.switches ≡ n → net.now.ports ≡ ports → Call c net r c' net' →
    (told_as (λ _. wires_in net'.now) r (rest c'.now) ≡ step (wires_in net.now) (rest c.now)) × Alike net'.now net.now
