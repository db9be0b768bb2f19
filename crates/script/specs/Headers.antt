-- The header of a script: the net, its cables and outside ports, and the texts of version 0.
use Rattle.std.specs.Prelude.{◌≡◌, ℕ, not, ◌&&◌, List, nat_le, nat_lt}
use Rattle.notation.specs.Words.{Word}
use Rattle.notation.specs.Reading.{Got, and_then, check, ended}
use Rattle.wire.specs.declared.board.Wire.TheVariants.{Outside}
use Rattle.wire.specs.declared.list.End.{End}
use Rattle.wire.specs.declared.list.Cable.{Cable}
use Rattle.wire.specs.Wires.{Wires, bare, put, is_free, is_cable}
use Rattle.wire.specs.Layouts.{Layout, linked}
use Rattle.wire.specs.Lists.{plugged, opened}
use Rattle.wire.specs.Laws.{GoodList}
use Rattle.script.specs.Steps.{typed}

-- Numbers, each tested as soon as it is read.
abbrev pub ranged : ℕ → ℕ → List Word → Got ℕ
ranged low high ws = and_then (typed ws) (λ x r. check (nat_le low x && nat_le x high) 2 x r)

abbrev pub below : ℕ → List Word → Got ℕ
below n ws = and_then (typed ws) (λ x r. check (nat_lt x n) 2 x r)

-- a port of switch i on which nothing hangs, and one that is on no cable
abbrev pub free_port : ℕ → Wires → ℕ → List Word → Got ℕ
free_port ports w i ws = and_then (below ports ws) (λ p r. check (is_free (w i p)) 4 p r)

abbrev pub open_port : ℕ → Wires → ℕ → List Word → Got ℕ
open_port ports w i ws = and_then (below ports ws) (λ p r. check (not (is_cable (w i p))) 4 p r)

-- The words behind the first one of a line.
abbrev pub net : List Word → Got Layout
net ws =
    and_then (ranged 1 24 ws) (λ n r.
    and_then (ranged 1 32 r) (λ m s.
    and_then (ranged 0 16 s) (λ h t. ended (record { switches = n; ports = m; hops = h; wire = bare }) t)))

-- the same net with other wires
abbrev pub wired : Layout → Wires → Layout
wired x w = record { switches = x.switches; ports = x.ports; hops = x.hops; wire = w }

-- one end holds its port while the other one is read
abbrev pub cable : Layout → List Word → Got Layout
cable x ws =
    and_then (below x.switches ws) (λ i r.
    and_then (free_port x.ports x.wire i r) (λ p s.
    and_then (below x.switches s) (λ j t.
    and_then (free_port x.ports (put i p Outside x.wire) j t) (λ q u. ended (wired x (linked i p j q x.wire)) u))))

abbrev pub outside : Layout → List Word → Got Layout
outside x ws =
    and_then (below x.switches ws) (λ i r.
    and_then (open_port x.ports x.wire i r) (λ p s. ended (wired x (put i p Outside x.wire)) s))

-- the cables and outside ports that are kept, and the wires beside them
pub record Kept (n ports h : ℕ) (cs : List Cable) (es : List End) (w : Wires) : Type 0 where
  pub good : GoodList n ports h cs es
  pub same : w ≡ opened es (plugged cs bare)
