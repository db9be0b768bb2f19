-- Worked cases: rows of one list, each a statement that holds.
use Rattle.std.specs.Prelude.{◌≡◌, ℕ, zero, suc, ◌<◌, List, [], ◌∷◌, replicate}
use Rattle.packet.specs.Packet.{Packet, once}
use Rattle.packet.specs.Policy.{always, is, isnt, keep, puts, and, then, copies}
use Rattle.packet.specs.Table.{Want, Setting, Table}
use Rattle.prescribed.specs.Table.{table_of}
use Rattle.run.specs.Net.{Wire, Outside, To, Nothing, Plan, Net, GoodNet}
use Rattle.run.specs.Order.{Install, Remove}
use Rattle.run.specs.Switch.{mark_of, Frame, Switch, Leave, remove, take_order, take_frame}
use Rattle.run.specs.Desk.{Idle, Removing}
use Rattle.run.specs.Run.{Entry, frame, mark, State, Steps, Reach}
use Rattle.run.specs.Promise.{Left}

-- two switches, their ports 1 joined by a cable and their ports 0 outside
abbrev pub pair_wire : ℕ → ℕ → Wire
pair_wire zero zero = Outside
pair_wire zero (suc zero) = To 1 1
pair_wire zero (suc (suc p)) = Nothing
pair_wire (suc zero) zero = Outside
pair_wire (suc zero) (suc zero) = To 0 1
pair_wire (suc zero) (suc (suc p)) = Nothing
pair_wire (suc (suc i)) p = Nothing

-- a table with one rule, which every packet meets, and one copy
abbrev pub every_packet : List Setting → Table
every_packet o = record { wants = []; outs = o ∷ [] } ∷ []

-- every packet goes over the cable, and out at switch 1
abbrev pub over_port : ℕ → ℕ
over_port zero = 1
over_port (suc i) = 0

abbrev pub over : Plan
over = record { text = λ i. puts 0 (over_port i); table = λ i. every_packet (record { at = 0; value = over_port i } ∷ []) }

-- every packet goes out where it is, with field 1 set to 7
abbrev pub seven : Plan
seven = record { text = λ i. then (puts 0 0) (puts 1 7); table = λ i. every_packet (record { at = 0; value = 0 } ∷ record { at = 1; value = 7 } ∷ []) }

abbrev pub pair : Net
pair = record { switches = 2; ports = 2; hops = 1; wire = pair_wire; first = over }

abbrev pub zeros : Packet
zeros = replicate 8 0

-- zeros that came in first, at switch 0 under version 0
abbrev pub visitor : Entry
visitor = record { ticket = 0; version = 0; from = 0; first = zeros }

-- its frame on the cable, at port 1 of the other switch, with no hops left
abbrev pub visiting : Frame
visiting = record { version = 0; hops = 0; packet = 1 ∷ replicate 7 0 }

-- A change from `over` to `seven` runs through. In s the packet that entered under version 0 is on the cable, both have stamped 1, and a mark
-- is behind it; in t removing starts, the mark has come in, and the packet has left as `over` says; in u the change is done
pub record Through : Type 0 where
  pub good : GoodNet pair
  pub s : State
  pub reached : Reach pair s
  pub stamp0 : (s.switch 0).stamp ≡ 1
  pub stamp1 : (s.switch 1).stamp ≡ 1
  pub cable : s.queue 0 1 ≡ frame (record { frame = visiting; entry = visitor }) ∷ mark (mark_of 1 1) ∷ []
  pub t : State
  pub passage : Steps pair s t
  pub removing : t.desk.stage ≡ Removing
  pub marked : (t.switch 1).latest 1 ≡ mark_of 1 1
  pub left : Left t.exits visitor 1 zeros
  pub u : State
  pub finish : Steps pair t u
  pub idle : u.desk.stage ≡ Idle
  pub new : u.desk.from ≡ 1

-- switch 1 when both have stamped: it holds both versions
abbrev pub holds_both : Switch
holds_both = record { held = record { version = 0; table = over.table 1 } ∷ record { version = 1; table = seven.table 1 } ∷ []; stamp = 1; floor = 0; latest = λ p. mark_of 0 0 }

-- Without marks it might remove version 0 while the packet is on the cable: the packet, which would have left, meets no table and is gone
pub record Unmarked : Type 0 where
  pub before : (take_frame (pair_wire 1) visiting holds_both).sends ≡ Leave zeros ∷ []
  pub after : (take_frame (pair_wire 1) visiting (take_order 2 (pair_wire 1) (Remove 0) holds_both).after).sends ≡ []

-- Install 1 comes again after version 1 was removed: below the floor, nothing happens
abbrev pub TooLate : Type 0
TooLate = (ports : ℕ) (wire : ℕ → Wire) (t : Table) (x : Switch) → 1 < x.stamp → take_order ports wire (Install 1 t) (remove 1 x) ≡ record { after = remove 1 x; sends = [] }

-- With no hops nothing is ever on a cable
abbrev pub NoHops : Type 0
NoHops = (w : Net) → GoodNet w → w.hops ≡ 0 → (s : State) → Reach w s → (j q : ℕ) → s.queue j q ≡ []

-- Prescribed tables of three texts. A want and a setting are a field and a value.
abbrev pub asks : ℕ → ℕ → Want
asks f x = record { at = f; value = x }

abbrev pub sets : ℕ → ℕ → Setting
sets f x = record { at = f; value = x }

-- is 1 5; keep; put 0 2; then
abbrev pub OneRule : Type 0
OneRule = table_of (then (keep (is 1 5)) (puts 0 2)) ≡ record { wants = asks 1 5 ∷ []; outs = (sets 0 2 ∷ []) ∷ [] } ∷ []

-- is 1 5; not; keep: the rule without outs stays, since it isn't at the end
abbrev pub Barred : Type 0
Barred = table_of (keep (isnt (is 1 5))) ≡ record { wants = asks 1 5 ∷ []; outs = [] } ∷ record { wants = []; outs = [] ∷ [] } ∷ []

-- put 0 3; always; keep; and: a packet at port 3 has one copy
abbrev pub port_three : Packet
port_three = 3 ∷ replicate 7 0

abbrev pub TwoOuts : Type 0
TwoOuts =
    (table_of (and (puts 0 3) (keep always)) ≡ record { wants = []; outs = [] ∷ (sets 0 3 ∷ []) ∷ [] } ∷ [])
    × (once (copies (and (puts 0 3) (keep always)) port_three) ≡ port_three ∷ [])

abbrev pub rows : List (Type 0)
rows = OneRule ∷ Barred ∷ TwoOuts ∷ Through ∷ Unmarked ∷ TooLate ∷ NoHops ∷ []

abbrev pub Every : List (Type 0) → Type 0
Every [] = Unit {0}
Every (P ∷ Ps) = P × Every Ps

abbrev pub CasesHold : Type 0
CasesHold = Every rows
