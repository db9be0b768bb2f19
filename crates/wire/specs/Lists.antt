-- A list of cables and of outside ports, its bytes, and what then hangs on the ports.
use Rattle.std.specs.Prelude.{◌≡◌, ℕ, ◌<◌, true, not, List, [], ◌∷◌, ◌++◌, length}
use Rattle.std.specs.List.{flat_map}
use Rattle.octets.specs.Parse.{word_bytes}
use Rattle.wire.specs.declared.list.End.{End}
use Rattle.wire.specs.declared.list.Cable.{Cable}
use Rattle.wire.specs.declared.board.Wire.TheVariants.{Outside}
use Rattle.wire.specs.Wires.{Wires, put, is_free, is_cable}
use Rattle.wire.specs.Layouts.{linked}

abbrev pub end_bytes : End → List ℕ
end_bytes e = e.switch ∷ (e.port ∷ [])

abbrev pub cable_bytes : Cable → List ℕ
cable_bytes c = end_bytes c.one ++ end_bytes c.other

abbrev pub list_bytes : List Cable → List End → List ℕ
list_bytes cs es = word_bytes (length cs) ++ (flat_map cable_bytes cs ++ (word_bytes (length es) ++ flat_map end_bytes es))

-- n switches, ports, h hops
abbrev pub layout_bytes : ℕ → ℕ → ℕ → List Cable → List End → List ℕ
layout_bytes n ports h cs es = n ∷ (ports ∷ (h ∷ list_bytes cs es))

-- one cable, all cables, all outside ports
abbrev pub plug : Cable → Wires → Wires
plug c w = linked c.one.switch c.one.port c.other.switch c.other.port w

abbrev pub plugged : List Cable → Wires → Wires
plugged [] w = w
plugged (c ∷ cs) w = plugged cs (plug c w)

abbrev pub opened : List End → Wires → Wires
opened [] w = w
opened (e ∷ es) w = opened es (put e.switch e.port Outside w)

-- the port is there
pub record Named (n ports : ℕ) (e : End) : Type 0 where
  pub switch : e.switch < n
  pub port : e.port < ports

-- both ports are there and free, and they are two
pub record Pluggable (n ports : ℕ) (w : Wires) (c : Cable) : Type 0 where
  pub one : Named n ports c.one
  pub other : Named n ports c.other
  pub free : is_free (w c.one.switch c.one.port) ≡ true
  pub free_too : is_free (put c.one.switch c.one.port Outside w c.other.switch c.other.port) ≡ true

abbrev pub AllPluggable : ℕ → ℕ → Wires → List Cable → Type 0
AllPluggable n ports w [] = Unit {0}
AllPluggable n ports w (c ∷ cs) = Pluggable n ports w c × AllPluggable n ports (plug c w) cs

-- the port is there and on no cable
pub record Openable (n ports : ℕ) (w : Wires) (e : End) : Type 0 where
  pub named : Named n ports e
  pub loose : not (is_cable (w e.switch e.port)) ≡ true

abbrev pub AllOpenable : ℕ → ℕ → Wires → List End → Type 0
AllOpenable n ports w [] = Unit {0}
AllOpenable n ports w (e ∷ es) = Openable n ports w e × AllOpenable n ports (put e.switch e.port Outside w) es
