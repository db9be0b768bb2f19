-- What is done to a net, call by call, and what is told of each: what left, what was lost, the stage that the desk comes to, a refusal, or that there is no such step now.
use Rattle.std.specs.Prelude.{◌≡◌, ℕ, zero, suc, ◌<◌, cond, List, [], ◌∷◌, ◌++◌, map, Some, None, nat_le}
use mathlib.Core.List.{Memᴰ}
use Rattle.packet.specs.Packet.{Packet, IsPacket, field}
use Rattle.run.specs.Net.{Plan, Net, Cable, GoodPlan, Outside}
use Rattle.run.specs.Order as lead
use Rattle.run.specs.Order.{Answer, answer_to}
use Rattle.run.specs.Switch.{Mark, Frame, Held, Switch}
use Rattle.run.specs.Desk.{Stage, Idle, Installing, Stamping, Flushing, Removing, Desk, Busy, heard, AllSeen, onwards, next_version, changed}
use Rattle.run.specs.Run.{Item, frame, mark, Exit, State, start, with_queue, with_desk, with_plan, entered, arrived, fall, ordered, commanded}
use Rattle.run.specs.Past.{awaited}

pub data Call : Type 0 where
  -- a packet comes in from outside at switch i
  Enter : (i : ℕ) (p : Packet) → Call
  -- the first item on the cable that goes out of port q of switch j comes in at its other end, or is lost
  Arrive : (j q : ℕ) → Call
  Lose : (j q : ℕ) → Call
  -- the order that has this answer reaches switch i
  Order : (i : ℕ) (a : Answer) → Call
  -- this answer of switch i reaches the desk
  Hear : (i : ℕ) (a : Answer) → Call
  -- a plan is brought to the desk
  Change : Plan → Call
  -- something with a fault in it, which has this number
  Faulty : (number : ℕ) → Call
  -- what each switch holds is asked for
  Show : Call

pub data Event : Type 0 where
  -- a packet that came in at switch `from` as `first` and goes by this version left at switch `at` as `last`
  Left : (from : ℕ) (first : Packet) (version at : ℕ) (last : Packet) → Event
  -- an item was lost on the cable that goes out of port q of switch j
  LostFrame : (j q : ℕ) → Frame → Event
  LostMark : (j q : ℕ) → Mark → Event
  -- the desk has come to a stage, which is about this version
  Staged : Stage → (version : ℕ) → Event
  Shown : (switch : ℕ) (versions : List ℕ) (stamp floor : ℕ) → Event
  Refused : (number : ℕ) → Event
  Impossible : Event

abbrev pub left_of : Exit → Event
left_of x = Left x.entry.from x.entry.first x.entry.version x.at x.last

abbrev pub lost_of : ℕ → ℕ → Item → Event
lost_of j q (frame c) = LostFrame j q c.frame
lost_of j q (mark m) = LostMark j q m

-- removing is about the old version, all else about the new one
abbrev pub about : Desk → Stage → ℕ
about d Idle = d.to
about d Installing = d.to
about d Stamping = d.to
about d (Flushing r) = d.to
about d Removing = d.from

abbrev pub staged_of : Desk → Event
staged_of d = Staged d.stage (about d d.stage)

-- numbers in rising order
unfoldable pub insert : ℕ → List ℕ → List ℕ
insert x [] = x ∷ []
insert x (y ∷ ys) = cond (nat_le x y) (x ∷ (y ∷ ys)) (y ∷ insert x ys)

unfoldable pub rising : List ℕ → List ℕ
rising [] = []
rising (x ∷ xs) = insert x (rising xs)

abbrev pub shown_of : ℕ → Switch → Event
shown_of i x = Shown i (rising (map (λ (y : Held). y.version) x.held)) x.stamp x.floor

-- the first n switches
unfoldable pub shown_to : ℕ → (ℕ → Switch) → List Event
shown_to zero f = []
shown_to (suc n) f = shown_to n f ++ (shown_of n (f n) ∷ [])

-- the packet can come in there
pub record MayEnter (w : Net) (i : ℕ) (p : Packet) : Type 0 where
  pub there : i < w.switches
  pub packet : IsPacket p
  pub outside : w.wire i (field 0 p) ≡ Outside

-- the order with this answer was given to switch i; the switch has sent this answer
abbrev pub WasGiven : Net → State → ℕ → Answer → Type 0
WasGiven w s i a = (i < w.switches) × (o : lead.Order) × Memᴰ o (s.given i) × (answer_to o ≡ a)

abbrev pub WasSaid : Net → State → ℕ → Answer → Type 0
WasSaid w s i a = (i < w.switches) × Memᴰ a (s.answered i)

-- In state s the call is answered by these events, and the state is then t.
pub data Does (w : Net) (s : State) : Call → List Event → State → Type 0 where
  enters : (i : ℕ) (p : Packet) → MayEnter w i p → (xs : List Exit) → (entered w i p s).exits ≡ s.exits ++ xs → Does w s (Enter i p) (map left_of xs) (entered w i p s)
  kept_out : (i : ℕ) (p : Packet) → (MayEnter w i p → ⊥) → Does w s (Enter i p) (Refused 2 ∷ []) s
  arrives : (j q i p : ℕ) → Cable w j q i p → (x : Item) (rest : List Item) → s.queue j q ≡ x ∷ rest → (xs : List Exit) → (arrived w i p x (with_queue j q rest s)).exits ≡ s.exits ++ xs →
      Does w s (Arrive j q) (map left_of xs) (arrived w i p x (with_queue j q rest s))
  none_arrives : (j q : ℕ) → s.queue j q ≡ [] → Does w s (Arrive j q) (Impossible ∷ []) s
  loses : (j q i p : ℕ) → Cable w j q i p → (x : Item) (rest : List Item) → s.queue j q ≡ x ∷ rest → Does w s (Lose j q) (lost_of j q x ∷ []) (fall i x (with_queue j q rest s))
  none_to_lose : (j q : ℕ) → s.queue j q ≡ [] → Does w s (Lose j q) (Impossible ∷ []) s
  orders : (i : ℕ) (a : Answer) → i < w.switches → (o : lead.Order) → Memᴰ o (s.given i) → answer_to o ≡ a → Does w s (Order i a) [] (ordered w i o s)
  never_given : (i : ℕ) (a : Answer) → (WasGiven w s i a → ⊥) → Does w s (Order i a) (Impossible ∷ []) s
  -- the desk hears the answer to the order of its stage, and goes on once all have answered
  hears : (i : ℕ) (a : Answer) → WasSaid w s i a → Memᴰ a (awaited s.desk) → (AllSeen w.switches (heard i s.desk) → ⊥) → Does w s (Hear i a) [] (with_desk (heard i s.desk) s)
  goes_on : (i : ℕ) (a : Answer) → WasSaid w s i a → Memᴰ a (awaited s.desk) → AllSeen w.switches (heard i s.desk) →
      Does w s (Hear i a) (staged_of (onwards w.hops (heard i s.desk)) ∷ []) (commanded (onwards w.hops (heard i s.desk)) (with_desk (heard i s.desk) s))
  not_awaited : (i : ℕ) (a : Answer) → WasSaid w s i a → (Memᴰ a (awaited s.desk) → ⊥) → Does w s (Hear i a) (Refused 11 ∷ []) s
  never_said : (i : ℕ) (a : Answer) → (WasSaid w s i a → ⊥) → Does w s (Hear i a) (Impossible ∷ []) s
  changes : (a : Plan) → GoodPlan w a → s.desk.stage ≡ Idle → (v : ℕ) → next_version s.desk ≡ Some v → Does w s (Change a) (Staged Installing v ∷ []) (commanded (changed v s.desk) (with_plan v a s))
  too_early : (a : Plan) → Busy s.desk.stage → Does w s (Change a) (Refused 9 ∷ []) s
  no_version : (a : Plan) → s.desk.stage ≡ Idle → next_version s.desk ≡ None → Does w s (Change a) (Refused 10 ∷ []) s
  refuses : (n : ℕ) → Does w s (Faulty n) (Refused n ∷ []) s
  shows : Does w s Show (shown_to w.switches s.switch) s

-- a call, and what was told of it
pub record Done : Type 0 where
  pub call : Call
  pub told : List Event

abbrev pub did : Call → List Event → Done
did c es = record { call = c; told = es }

-- from the start of the net these calls, told so, lead to this state
pub data Played (w : Net) : List Done → State → Type 0 where
  begun : Played w [] (start w)
  then : {ds : List Done} {s t : State} {c : Call} {es : List Event} → Played w ds s → Does w s c es t → Played w (ds ++ (did c es ∷ [])) t
