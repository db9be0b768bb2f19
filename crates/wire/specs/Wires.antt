-- What hangs on each port of each switch: a function of the two numbers.
use Rattle.std.specs.Prelude.{◌≡◌, ℕ, ◌<◌, Bool, true, false, cond, ◌&&◌, [], ◌==◌, ◌≢◌, slice_index_or}
use Rattle.wire.specs.declared.board.Wire.{Wire}
use Rattle.wire.specs.declared.board.Wire.TheVariants.{Nothing, Outside, To}
use Rattle.wire.specs.declared.board.Board.{Board}

abbrev pub Wires : Type 0
Wires = ℕ → ℕ → Wire

abbrev pub bare : Wires
bare i p = Nothing

-- x hangs on port p of switch i, and the others are as before
abbrev pub put : ℕ → ℕ → Wire → Wires → Wires
put i p x w j q = cond (j == i && q == p) x (w j q)

abbrev pub is_free : Wire → Bool
is_free Outside = false
is_free (To i p) = false
is_free Nothing = true

abbrev pub is_outside : Wire → Bool
is_outside Outside = true
is_outside (To i p) = false
is_outside Nothing = false

abbrev pub is_cable : Wire → Bool
is_cable Outside = false
is_cable (To i p) = true
is_cable Nothing = false

-- a cable to port p of switch i
abbrev pub leads : Wire → ℕ → ℕ → Bool
leads Nothing i p = false
leads Outside i p = false
leads (To j q) i p = j == i && q == p

-- a board has 32 ports for each of 24 switches; on others hangs nothing
abbrev pub wires_of : Board → Wires
wires_of b i p = slice_index_or (slice_index_or b.wires i []) p Nothing

-- What holds of the wires of n switches with so many ports each.
-- only on their ports hangs something
abbrev pub There : ℕ → ℕ → Wires → Type 0
There n ports w = (i p : ℕ) → is_free (w i p) ≡ false → (i < n) × (p < ports)

-- a cable, seen from one end
pub record Link : Type 0 where
  pub switch : ℕ
  pub port : ℕ
  pub to_switch : ℕ
  pub to_port : ℕ

abbrev pub Joins : Wires → Link → Type 0
Joins w l = w l.switch l.port ≡ To l.to_switch l.to_port

-- each cable goes both ways
abbrev pub Back : Wires → Type 0
Back w = (l : Link) → Joins w l → leads (w l.to_switch l.to_port) l.switch l.port ≡ true

-- it ends at a port that is there
abbrev pub Ends : ℕ → ℕ → Wires → Type 0
Ends n ports w = (l : Link) → Joins w l → (l.to_switch < n) × (l.to_port < ports)

-- and not at the port where it begins
abbrev pub Apart : Wires → Type 0
Apart w = (l : Link) → Joins w l → l.switch ≡ l.to_switch → l.port ≢ l.to_port

-- all of it: what goes out at port q of switch j and comes in at port p of switch i goes the other way too
pub record Sound (n ports : ℕ) (w : Wires) : Type 0 where
  pub there : There n ports w
  pub both : (j q i p : ℕ) → w j q ≡ To i p → w i p ≡ To j q
  pub ends : (j q i p : ℕ) → w j q ≡ To i p → (i < n) × (p < ports)
  pub apart : (j q i p : ℕ) → w j q ≡ To i p → j ≡ i → q ≢ p
