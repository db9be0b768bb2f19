-- The run of a net: its states, and the steps from one to the next. A step applies a function of one switch or of the desk, and moves what is sent.
use Rattle.std.specs.Prelude.{◌≡◌, ℕ, ◌<◌, List, [], ◌∷◌, ◌++◌, length, Some, None, Option}
use mathlib.Core.List.{Memᴰ}
use Rattle.packet.specs.Packet.{Packet, IsPacket, field}
use Rattle.run.specs.At.{at, at2}
use Rattle.run.specs.Net.{Plan, Net, Cable, GoodPlan, Outside}
use Rattle.run.specs.Order.{Order, Answer, answer_to}
use Rattle.run.specs.Switch.{Mark, Frame, Switch, Message, Reply, MarkOn, FrameOn, Leave, Turn, first_switch, take_order, take_mark, take_frame, take_packet}
use Rattle.run.specs.Desk.{Desk, Idle, first_desk, Busy, orders_of, heard, AllSeen, onwards, next_version, changed}

-- a packet that came in: how many came before it, the version that it got, at which switch, and as what
pub record Entry : Type 0 where
  pub ticket : ℕ
  pub version : ℕ
  pub from : ℕ
  pub first : Packet

-- a frame under way, and the packet that it is a copy of
pub record Carried : Type 0 where
  pub frame : Frame
  pub entry : Entry

-- what is on a cable
pub data Item : Type 0 where
  frame : Carried → Item
  mark : Mark → Item

-- a packet that left at a switch
pub record Exit : Type 0 where
  pub entry : Entry
  pub at : ℕ
  pub last : Packet

-- a frame that was lost on a cable to a switch
pub record Fallen : Type 0 where
  pub to : ℕ
  pub what : Carried

-- queue j q: what is on the cable that goes out of port q of switch j, the first first. given, answered: by switch. plans: by version
pub record State : Type 0 where
  pub switch : ℕ → Switch
  pub queue : ℕ → ℕ → List Item
  pub given : ℕ → List Order
  pub answered : ℕ → List Answer
  pub desk : Desk
  pub plans : ℕ → Plan
  pub entries : List Entry
  pub exits : List Exit
  pub fallen : List Fallen

abbrev pub start : Net → State
start w = record { switch = λ i. first_switch (w.first.table i); queue = λ j q. []; given = λ i. []; answered = λ i. []; desk = first_desk; plans = λ v. w.first; entries = []; exits = []; fallen = [] }

abbrev pub with_switch : ℕ → Switch → State → State
with_switch i x s = record { switch = at i x s.switch; queue = s.queue; given = s.given; answered = s.answered; desk = s.desk; plans = s.plans; entries = s.entries; exits = s.exits; fallen = s.fallen }

abbrev pub with_queue : ℕ → ℕ → List Item → State → State
with_queue j q xs s = record { switch = s.switch; queue = at2 j q xs s.queue; given = s.given; answered = s.answered; desk = s.desk; plans = s.plans; entries = s.entries; exits = s.exits; fallen = s.fallen }

abbrev pub with_answer : ℕ → Answer → State → State
with_answer i o s = record { switch = s.switch; queue = s.queue; given = s.given; answered = at i (s.answered i ++ (o ∷ [])) s.answered; desk = s.desk; plans = s.plans; entries = s.entries; exits = s.exits; fallen = s.fallen }

abbrev pub with_given : (ℕ → List Order) → State → State
with_given g s = record { switch = s.switch; queue = s.queue; given = g; answered = s.answered; desk = s.desk; plans = s.plans; entries = s.entries; exits = s.exits; fallen = s.fallen }

abbrev pub with_desk : Desk → State → State
with_desk d s = record { switch = s.switch; queue = s.queue; given = s.given; answered = s.answered; desk = d; plans = s.plans; entries = s.entries; exits = s.exits; fallen = s.fallen }

abbrev pub with_plan : ℕ → Plan → State → State
with_plan v a s = record { switch = s.switch; queue = s.queue; given = s.given; answered = s.answered; desk = s.desk; plans = at v a s.plans; entries = s.entries; exits = s.exits; fallen = s.fallen }

abbrev pub with_entry : Entry → State → State
with_entry e s = record { switch = s.switch; queue = s.queue; given = s.given; answered = s.answered; desk = s.desk; plans = s.plans; entries = s.entries ++ (e ∷ []); exits = s.exits; fallen = s.fallen }

abbrev pub with_exit : Exit → State → State
with_exit x s = record { switch = s.switch; queue = s.queue; given = s.given; answered = s.answered; desk = s.desk; plans = s.plans; entries = s.entries; exits = s.exits ++ (x ∷ []); fallen = s.fallen }

abbrev pub with_fallen : Fallen → State → State
with_fallen f s = record { switch = s.switch; queue = s.queue; given = s.given; answered = s.answered; desk = s.desk; plans = s.plans; entries = s.entries; exits = s.exits; fallen = s.fallen ++ (f ∷ []) }

-- puts an item on the cable that goes out of port p of switch i
abbrev pub put_on : ℕ → ℕ → Item → State → State
put_on i p x s = with_queue i p (s.queue i p ++ (x ∷ [])) s

-- what switch i sends is moved; `of` is the packet that it works on. An order and a mark have none, and make no frame
abbrev pub move : ℕ → Option Entry → Message → State → State
move i of (Reply o) s = with_answer i o s
move i of (MarkOn p m) s = put_on i p (mark m) s
move i (Some e) (FrameOn p f) s = put_on i p (frame (record { frame = f; entry = e })) s
move i None (FrameOn p f) s = s
move i (Some e) (Leave o) s = with_exit (record { entry = e; at = i; last = o }) s
move i None (Leave o) s = s

unfoldable pub move_all : ℕ → Option Entry → List Message → State → State
move_all i of [] s = s
move_all i of (m ∷ ms) s = move_all i of ms (move i of m s)

abbrev pub turned : ℕ → Option Entry → Turn → State → State
turned i of t s = move_all i of t.sends (with_switch i t.after s)

abbrev pub entry : State → ℕ → Packet → Entry
entry s i p = record { ticket = length s.entries; version = (s.switch i).stamp; from = i; first = p }

-- packet p comes in from outside at switch i
abbrev pub entered : Net → ℕ → Packet → State → State
entered w i p s = turned i (Some (entry s i p)) (take_packet w.hops (w.wire i) p (s.switch i)) (with_entry (entry s i p) s)

-- an item has come off its cable at port p of switch i
abbrev pub arrived : Net → ℕ → ℕ → Item → State → State
arrived w i p (frame c) s = turned i (Some c.entry) (take_frame (w.wire i) c.frame (s.switch i)) s
arrived w i p (mark m) s = turned i None (take_mark p m (s.switch i)) s

-- an item is lost on a cable to switch i; a mark leaves no trace
abbrev pub fall : ℕ → Item → State → State
fall i (frame c) s = with_fallen (record { to = i; what = c }) s
fall i (mark m) s = s

-- order o comes to switch i
abbrev pub ordered : Net → ℕ → Order → State → State
ordered w i o s = turned i None (take_order w.ports (w.wire i) o (s.switch i)) s

-- what the desk d gives to switch i, with the tables of the state's plans, and waits for
abbrev pub wanted : State → Desk → ℕ → List Order
wanted s d i = orders_of d ((s.plans d.to).table i)

-- the desk is now d, and gives the orders of its stage
abbrev pub commanded : Desk → State → State
commanded d s = with_desk d (with_given (λ i. s.given i ++ wanted s d i) s)

pub data Step (w : Net) : State → State → Type 0 where
  -- a packet comes in from outside
  enter : (s : State) (i : ℕ) → i < w.switches → (p : Packet) → IsPacket p → w.wire i (field 0 p) ≡ Outside → Step w s (entered w i p s)
  -- the first item of a cable comes in
  arrive : (s : State) (j q i p : ℕ) → Cable w j q i p → (x : Item) (rest : List Item) → s.queue j q ≡ x ∷ rest → Step w s (arrived w i p x (with_queue j q rest s))
  -- any item of a cable is lost
  lose : (s : State) (j q i p : ℕ) → Cable w j q i p → (x : Item) (front rest : List Item) → s.queue j q ≡ front ++ (x ∷ rest) → Step w s (fall i x (with_queue j q (front ++ rest) s))
  -- an order that was given comes to its switch
  order : (s : State) (i : ℕ) → i < w.switches → (o : Order) → Memᴰ o (s.given i) → Step w s (ordered w i o s)
  -- an answer to the order of the stage comes to the desk
  hear : (s : State) (i : ℕ) → i < w.switches → (o : Order) → Memᴰ o (wanted s s.desk i) → Memᴰ (answer_to o) (s.answered i) → Step w s (with_desk (heard i s.desk) s)
  -- all have answered, and the desk goes on
  next : (s : State) → Busy s.desk.stage → AllSeen w.switches s.desk → Step w s (commanded (onwards w.hops s.desk) s)
  -- a plan is brought
  change : (s : State) (v : ℕ) (a : Plan) → GoodPlan w a → s.desk.stage ≡ Idle → next_version s.desk ≡ Some v → Step w s (commanded (changed v s.desk) (with_plan v a s))

-- from one state to a later one
pub data Steps (w : Net) (s : State) : State → Type 0 where
  stay : Steps w s s
  more : {t u : State} → Steps w s t → Step w t u → Steps w s u

abbrev pub Reach : Net → State → Type 0
Reach w s = Steps w (start w) s
