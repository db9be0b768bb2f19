-- The invariant of a run. Why it holds, with h hops: a mark is put on a cable with nothing behind it, and a frame that goes on has one hop
-- less. So, once all have stamped, a frame of the old version behind a mark of round r has at most h - 1 - r hops left; and when all have
-- answered round r, every such frame on a cable is behind a mark of that round. Behind round h there is none.
use Rattle.std.proofs.Common.{◌≡◌, ℕ, ◌+◌, ◌<◌, ◌≤◌, T, ◌⊎◌, List, [], ◌∷◌}
use mathlib.Core.List.{Memᴰ}
use Rattle.packet.specs.Packet.{Packet, IsPacket}
use Rattle.run.specs.Net.{Net, Plan, GoodPlan, Cable, Goes}
use Rattle.run.specs.Order.{Order, Install, Stamp, Round, Remove, Answer, Installed, Stamped, Reached, Removed, answer_to}
use Rattle.run.specs.Switch.{Mark, mark_of, Frame, Held, Switch, knows}
use Rattle.run.specs.Desk.{Stage, Idle, Installing, Stamping, Flushing, Removing, Desk, orders_in}
use Rattle.run.specs.Run.{Entry, Carried, Item, frame, mark, Exit, State}
use Rattle.run.specs.Promise.{Holds}
use Rattle.run.specs.Past.{rank}

-- where the desk stands: its two versions, and the rank of its stage
pub record Time : Type 0 where
  pub from : ℕ
  pub to : ℕ
  pub rank : ℕ

abbrev pub time_at : Net → Desk → Stage → Time
time_at w d g = record { from = d.from; to = d.to; rank = rank w.hops g }

abbrev pub time_of : Net → State → Time
time_of w s = time_at w s.desk s.desk.stage

abbrev pub StageOk : (rounds from to : ℕ) → Stage → Type 0
StageOk rounds from to Idle = to ≡ from
StageOk rounds from to Installing = to ≡ from + 1
StageOk rounds from to Stamping = to ≡ from + 1
StageOk rounds from to (Flushing r) = (to ≡ from + 1) × (1 ≤ r) × (r ≤ rounds)
StageOk rounds from to Removing = to ≡ from + 1

-- between changes both versions are the same, and in a change the second is the next
abbrev pub Spans : Time → Type 0
Spans m = ((m.rank ≡ 0) × (m.to ≡ m.from)) ⊎ ((1 ≤ m.rank) × (m.to ≡ m.from + 1))

-- what a switch holds. h: the net's hops
pub data Has (h : ℕ) (m : Time) (a : ℕ → Plan) (i : ℕ) (held : List Held) (floor : ℕ) : Type 0 where
  old : Holds a i (λ v. v ≡ m.from) held → floor ≡ m.from → m.rank ≤ 1 → Has h m a i held floor
  both : Holds a i (λ v. (v ≡ m.from) ⊎ (v ≡ m.to)) held → floor ≡ m.from → 1 ≤ m.rank → Has h m a i held floor
  new : Holds a i (λ v. v ≡ m.to) held → floor ≡ m.to → h + 3 ≤ m.rank → Has h m a i held floor

pub record Fit (h : ℕ) (m : Time) (a : ℕ → Plan) (i : ℕ) (x : Switch) : Type 0 where
  pub has : Has h m a i x.held x.floor
  pub stamps : ((x.stamp ≡ m.from) × (m.rank ≤ 2)) ⊎ ((x.stamp ≡ m.to) × (2 ≤ m.rank))

-- how many cables a frame may still go over: at most the net's hops when it enters, one less behind each cable, and none behind 0
abbrev pub left : Frame → ℕ
left f = f.hops

-- the version of a frame, and how much is left of it
pub record Timely (h : ℕ) (m : Time) (f : Frame) : Type 0 where
  pub which : ((f.version ≡ m.from) × (left f + m.rank ≤ h + 2)) ⊎ ((f.version ≡ m.to) × (2 ≤ m.rank))
  pub few : left f ≤ h

-- what a frame will do from switch i on is among what its plan says from its entrance on
pub record Way (w : Net) (a : ℕ → Plan) (i : ℕ) (c : Carried) : Type 0 where
  pub mine : c.frame.version ≡ c.entry.version
  pub goes : (k : ℕ) (o : Packet) → Goes w (a c.frame.version).text c.frame.hops i c.frame.packet k o → Goes w (a c.frame.version).text w.hops c.entry.from c.entry.first k o
  pub packet : IsPacket c.frame.packet

-- a frame on a cable to switch i
pub record Rides (w : Net) (a : ℕ → Plan) (m : Time) (i : ℕ) (c : Carried) : Type 0 where
  pub way : Way w a i c
  pub timely : Timely w.hops m c.frame
  pub less : left c.frame < w.hops

-- a mark that may be about
abbrev pub Ripe : Time → Mark → Type 0
Ripe m k = (k.version ≤ m.from) ⊎ ((k.version ≡ m.to) × (k.round + 2 ≤ m.rank))

abbrev pub Fine : Net → (ℕ → Plan) → Time → ℕ → Item → Type 0
Fine w a m i (frame c) = Rides w a m i c
Fine w a m i (mark k) = Ripe m k

-- of the earlier versions, what is behind a mark has little left
abbrev pub Behind : ℕ → Item → List Item → Type 0
Behind h (frame c) xs = Unit {0}
Behind h (mark k) xs = (c : Carried) → Memᴰ (frame c) xs → c.frame.version < k.version → left c.frame + 1 + k.round ≤ h

abbrev pub Line : Net → (ℕ → Plan) → Time → ℕ → List Item → Type 0
Line w a m i [] = Unit {0}
Line w a m i (x ∷ xs) = Fine w a m i x × Behind w.hops x xs × Line w a m i xs

-- the cables to switch i. latest: the latest mark that has come off the cable at a port, which counts as standing at its head
abbrev pub Lines : Net → (ℕ → Plan) → Time → ℕ → (ℕ → Mark) → (ℕ → ℕ → List Item) → Type 0
Lines w a m i latest queue = (j q p : ℕ) → Cable w j q i p → Line w a m i (mark (latest p) ∷ queue j q)

-- an order that was given to switch i
abbrev pub Asked : ℕ → Time → (ℕ → Plan) → ℕ → Order → Type 0
Asked h m a i (Install v t) = (v ≤ m.from) ⊎ ((v ≡ m.to) × (1 ≤ m.rank) × (t ≡ (a v).table i))
Asked h m a i (Stamp v) = (v ≤ m.from) ⊎ ((v ≡ m.to) × (2 ≤ m.rank))
Asked h m a i (Round v r) = Ripe m (mark_of v r)
Asked h m a i (Remove v) = (v < m.from) ⊎ ((v ≡ m.from) × (h + 3 ≤ m.rank))

-- version v is there, or was
abbrev pub Kept : ℕ → Switch → Type 0
Kept v x = T (knows v x.held) ⊎ (v < x.floor)

-- a mark k, or a later one
abbrev pub Since : Mark → Mark → Type 0
Since k l = (k.version < l.version) ⊎ ((k.version ≡ l.version) × (k.round ≤ l.round))

-- what an answer of switch i says for good
abbrev pub Did : Net → ℕ → Switch → Answer → Type 0
Did w i x (Installed v) = Kept v x
Did w i x (Stamped v) = v ≤ x.stamp
Did w i x (Reached v r) = (j q p : ℕ) → Cable w j q i p → Since (mark_of v r) (x.latest p)
Did w i x (Removed v) = v < x.floor

-- what every step keeps of a switch
pub record Grows (x y : Switch) : Type 0 where
  pub floor : x.floor ≤ y.floor
  pub stamp : x.stamp ≤ y.stamp
  pub kept : (v : ℕ) → Kept v x → Kept v y
  pub latest : (p : ℕ) (k : Mark) → Since k (x.latest p) → Since k (y.latest p)

-- a frame's packet came in
abbrev pub Logged : List Entry → Item → Type 0
Logged es (frame c) = Memᴰ c.entry es
Logged es (mark k) = Unit {0}

-- nothing is where no cable is
abbrev pub Wired : Net → List Entry → ℕ → ℕ → List Item → Type 0
Wired w es j q xs = (x : Item) → Memᴰ x xs → (i : ℕ) × (p : ℕ) × Cable w j q i p × Logged es x

-- a packet that left as its plan says
pub record Sound (w : Net) (a : ℕ → Plan) (es : List Entry) (x : Exit) : Type 0 where
  pub logged : Memᴰ x.entry es
  pub leaves : Goes w (a x.entry.version).text w.hops x.entry.from x.entry.first x.at x.last

-- a: plans that agree with those brought so far. g: the desk's stage
pub record InvAt (w : Net) (a : ℕ → Plan) (s : State) (g : Stage) : Type 0 where
  pub stage : StageOk w.hops s.desk.from s.desk.to g
  pub good : (v : ℕ) → v ≤ s.desk.to → GoodPlan w (a v)
  pub switches : (i : ℕ) → i < w.switches → Fit w.hops (time_at w s.desk g) a i (s.switch i)
  pub given : (i : ℕ) (o : Order) → Memᴰ o (s.given i) → Asked w.hops (time_at w s.desk g) a i o
  pub answered : (i : ℕ) (o : Answer) → Memᴰ o (s.answered i) → Did w i (s.switch i) o
  pub seen : (i : ℕ) → T (s.desk.seen i) → (o : Order) → Memᴰ o (orders_in s.desk.from s.desk.to ((s.plans s.desk.to).table i) g) → Memᴰ (answer_to o) (s.answered i)
  pub cables : (i : ℕ) → Lines w a (time_at w s.desk g) i (s.switch i).latest s.queue
  pub wired : (j q : ℕ) → Wired w s.entries j q (s.queue j q)
  pub exits : (x : Exit) → Memᴰ x s.exits → Sound w a s.entries x

abbrev pub Inv : Net → (ℕ → Plan) → State → Type 0
Inv w a s = InvAt w a s s.desk.stage
