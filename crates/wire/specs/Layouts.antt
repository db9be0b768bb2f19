-- The bytes of a list of cables: n, ports, h, number of cables, cables, number of outside ports, outside ports.
use Rattle.std.specs.Prelude.{ℕ, zero, suc, not, List}
use Rattle.octets.specs.Parse.{Got, Read, and_then, check, word}
use Rattle.wire.specs.declared.board.Wire.TheVariants.{Outside, To}
use Rattle.octets.specs.Parse.{between, below}
use Rattle.wire.specs.Wires.{Wires, bare, put, is_free, is_cable}

-- a step that reads on, k times
abbrev pub times : {X : Type 0} → ℕ → (X → List ℕ → Got X) → X → List ℕ → Got X
times zero step x bs = Read x bs
times (suc k) step x bs = and_then (step x bs) (λ y r. times k step y r)

-- a port of switch i on which nothing hangs
abbrev pub free_port : ℕ → Wires → ℕ → List ℕ → Got ℕ
free_port ports w i bs = and_then (below ports bs) (λ p r. check (is_free (w i p)) 4 p r)

-- a port of switch i that is on no cable
abbrev pub open_port : ℕ → Wires → ℕ → List ℕ → Got ℕ
open_port ports w i bs = and_then (below ports bs) (λ p r. check (not (is_cable (w i p))) 4 p r)

-- one end holds its port while the other one is read
abbrev pub linked : ℕ → ℕ → ℕ → ℕ → Wires → Wires
linked i p j q w = put j q (To i p) (put i p (To j q) (put i p Outside w))

-- a cable: switch, port, switch, port
abbrev pub cable : ℕ → ℕ → Wires → List ℕ → Got Wires
cable n ports w bs =
    and_then (below n bs) (λ i r.
    and_then (free_port ports w i r) (λ p s.
    and_then (below n s) (λ j t.
    and_then (free_port ports (put i p Outside w) j t) (λ q u. Read (linked i p j q w) u))))

-- an outside port: switch, port
abbrev pub outside : ℕ → ℕ → Wires → List ℕ → Got Wires
outside n ports w bs =
    and_then (below n bs) (λ i r.
    and_then (open_port ports w i r) (λ p s. Read (put i p Outside w) s))

-- all cables, and then all outside ports
abbrev pub wires : ℕ → ℕ → List ℕ → Got Wires
wires n ports bs =
    and_then (word bs) (λ k r.
    and_then (times k (cable n ports) bare r) (λ w s.
    and_then (word s) (λ l t. times l (outside n ports) w t)))

-- n switches with so many ports each, over which packets go by at most h cables
pub record Layout : Type 0 where
  pub switches : ℕ
  pub ports : ℕ
  pub hops : ℕ
  pub wire : Wires

abbrev pub layout : List ℕ → Got Layout
layout bs =
    and_then (between 1 24 bs) (λ n r.
    and_then (between 1 32 r) (λ m s.
    and_then (between 0 16 s) (λ h t.
    and_then (wires n m t) (λ w u. Read (record { switches = n; ports = m; hops = h; wire = w }) u))))
