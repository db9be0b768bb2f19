-- The promise: every packet goes by one plan, the one in force where and when it came in, whatever changes are under way.
use Rattle.std.specs.Prelude.{◌≡◌, ℕ, ◌<◌, ◌≤◌, T, ◌⊎◌, List}
use mathlib.Core.List.{Memᴰ}
use Rattle.packet.specs.Packet.{Packet, field}
use Rattle.packet.specs.Policy.{Policy}
use Rattle.run.specs.Net.{Plan, Net, Cable, GoodNet, Outside, Goes, Leaves}
use Rattle.run.specs.Switch.{Held, knows, table_of}
use Rattle.run.specs.Desk.{Idle}
use Rattle.run.specs.Run.{Entry, Carried, Item, frame, Exit, Fallen, State, Steps, Reach, entry, entered}

-- switch i holds the versions that are in V and no others, each with its plan's table
pub record Holds (plans : ℕ → Plan) (i : ℕ) (V : ℕ → Type 0) (held : List Held) : Type 0 where
  pub only : (v : ℕ) → T (knows v held) → V v
  pub all : (v : ℕ) → V v → T (knows v held)
  pub tables : (v : ℕ) → V v → table_of v held ≡ (plans v).table i

-- e was made when its packet came in from outside. `before` is the state then: e has the version that its switch stamped with,
-- and the plan of that version was what it is now
pub record CameIn (w : Net) (s : State) (e : Entry) : Type 0 where
  pub before : State
  pub reached : Reach w before
  pub since : Steps w (entered w e.from e.first before) s
  pub outside : w.wire e.from (field 0 e.first) ≡ Outside
  pub is : e ≡ entry before e.from e.first
  pub plan : before.plans (before.switch e.from).stamp ≡ s.plans e.version

-- e's packet has left at switch k as o
abbrev pub Left : List Exit → Entry → ℕ → Packet → Type 0
Left exits e k o = Memᴰ (record { entry = e; at = k; last = o }) exits

-- a copy of it is on a cable that by the texts will leave at k as o
pub record Coming (w : Net) (queue : ℕ → ℕ → List Item) (texts : ℕ → Policy) (e : Entry) (k : ℕ) (o : Packet) : Type 0 where
  pub j : ℕ
  pub q : ℕ
  pub i : ℕ
  pub p : ℕ
  pub cable : Cable w j q i p
  pub c : Carried
  pub there : Memᴰ (frame c) (queue j q)
  pub mine : c.entry ≡ e
  pub goes : Goes w texts c.frame.hops i c.frame.packet k o

-- a copy of it was lost on a cable that by the texts would have left at k as o
pub record Missed (w : Net) (fallen : List Fallen) (texts : ℕ → Policy) (e : Entry) (k : ℕ) (o : Packet) : Type 0 where
  pub f : Fallen
  pub there : Memᴰ f fallen
  pub mine : f.what.entry ≡ e
  pub goes : Goes w texts f.what.frame.hops f.to f.what.frame.packet k o

-- in s
pub record Whole (w : Net) (s : State) : Type 0 where
  -- each packet goes by the plan that was in force at its entrance when it came in
  pub came : (e : Entry) → Memᴰ e s.entries → CameIn w s e
  -- what leaves, leaves as the texts of that plan say
  pub right : (x : Exit) → Memᴰ x s.exits → Memᴰ x.entry s.entries × Leaves w (s.plans x.entry.version) x.entry.from x.entry.first x.at x.last
  -- all that the texts say has left, is under way on a cable, or was lost on a cable
  pub all : (e : Entry) → Memᴰ e s.entries → (k : ℕ) (o : Packet) → Leaves w (s.plans e.version) e.from e.first k o →
      Left s.exits e k o ⊎ (Coming w s.queue (s.plans e.version).text e k o ⊎ Missed w s.fallen (s.plans e.version).text e k o)
  -- a switch has the table of whatever may come in next: of the version that it stamps with, and of each frame on a cable to it
  pub stamped : (i : ℕ) → i < w.switches → T (knows (s.switch i).stamp (s.switch i).held)
  pub met : (j q i p : ℕ) → Cable w j q i p → (c : Carried) → Memᴰ (frame c) (s.queue j q) → T (knows c.frame.version (s.switch i).held)
  -- no packet that enters later at the same switch goes by an earlier plan; no two have one ticket
  pub later : (e f : Entry) → Memᴰ e s.entries → Memᴰ f s.entries → e.from ≡ f.from → e.ticket < f.ticket → e.version ≤ f.version
  pub unique : (e f : Entry) → Memᴰ e s.entries → Memᴰ f s.entries → e.ticket ≡ f.ticket → e ≡ f
  -- when the desk says that a change is done, every switch holds the new plan's table and no other, and stamps with it
  pub done : s.desk.stage ≡ Idle → (i : ℕ) → i < w.switches → Holds s.plans i (λ v. v ≡ s.desk.to) (s.switch i).held × ((s.switch i).stamp ≡ s.desk.to)

abbrev pub Promise : Type 0
Promise = (w : Net) → GoodNet w → (s : State) → Reach w s → Whole w s
