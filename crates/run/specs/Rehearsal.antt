-- The promise over any list of calls to a net, in words of the calls and of what is told of them.
use Rattle.std.specs.Prelude.{◌≡◌, ℕ, ◌<◌, ◌≤◌, T, ◌⊎◌, List, [], ◌∷◌, ◌++◌, ◌≢◌}
use mathlib.Core.List.{Memᴰ}
use Rattle.packet.specs.Packet.{Packet}
use Rattle.packet.specs.Policy.{Policy}
use Rattle.run.specs.Net.{Plan, Net, Cable, GoodNet, Goes, Leaves}
use Rattle.run.specs.Switch.{Frame, knows}
use Rattle.run.specs.Desk.{Idle, Installing}
use Rattle.run.specs.Run.{Carried, frame, State, entry}
use Rattle.run.specs.Promise.{Holds, Coming}
use Rattle.run.specs.Calls.{Enter, Change, Event, Left, LostFrame, Staged, Refused, Done, did, Played}

-- somewhere in the list this was told
pub record Told (ds : List Done) (e : Event) : Type 0 where
  pub call : Done
  pub listed : Memᴰ call ds
  pub told : Memᴰ e call.told

-- the plan of a version: that of the start, or of a change in the list
abbrev pub PlanOf : Net → List Done → ℕ → Plan → Type 0
PlanOf w ds v a = ((v ≡ 0) × (a ≡ w.first)) ⊎ Memᴰ (did (Change a) (Staged Installing v ∷ [])) ds

-- a packet came in by a call in the list. `before`: the calls before it, and the state that they led to
pub record CameIn (w : Net) (ds : List Done) (i : ℕ) (p : Packet) : Type 0 where
  pub before : List Done
  pub told : List Event
  pub after : List Done
  pub is : ds ≡ before ++ (did (Enter i p) told ∷ after)
  pub state : State
  pub played : Played w before state

-- a copy was told to be lost on a cable that by the texts would have left at k as o
pub record ToldLost (w : Net) (ds : List Done) (texts : ℕ → Policy) (k : ℕ) (o : Packet) : Type 0 where
  pub j : ℕ
  pub q : ℕ
  pub i : ℕ
  pub p : ℕ
  pub cable : Cable w j q i p
  pub what : Frame
  pub told : Told ds (LostFrame j q what)
  pub goes : Goes w texts what.hops i what.packet k o

-- the state behind a call in the list
pub record Behind (w : Net) (ds : List Done) (d : Done) : Type 0 where
  pub before : List Done
  pub after : List Done
  pub is : ds ≡ before ++ (d ∷ after)
  pub state : State
  pub played : Played w (before ++ (d ∷ [])) state

pub record Kept (w : Net) (ds : List Done) (s : State) : Type 0 where
  -- what is told to have left came in by a call in the list, and leaves as the texts of one plan say: the one in force at its switch when it came in
  pub left : (i : ℕ) (p : Packet) (v k : ℕ) (o : Packet) → Told ds (Left i p v k o) →
      (c : CameIn w ds i p) × ((c.state.switch i).stamp ≡ v) × (a : Plan) × PlanOf w ds v a × Leaves w a i p k o
  -- of every packet that came in, each copy that this plan gives it was told to have left or to be lost, or is on a cable
  pub due : (before after : List Done) (i : ℕ) (p : Packet) (told : List Event) → ds ≡ before ++ (did (Enter i p) told ∷ after) → (told ≢ Refused 2 ∷ []) →
      (b : State) × Played w before b × (a : Plan) × PlanOf w ds (b.switch i).stamp a ×
      ((k : ℕ) (o : Packet) → Leaves w a i p k o → Told ds (Left i p (b.switch i).stamp k o) ⊎ (Coming w s.queue a.text (entry b i p) k o ⊎ ToldLost w ds a.text k o))
  -- no switch meets a packet without its table: it has that of the version that it stamps with, and of each frame on a cable to it
  pub stamped : (i : ℕ) → i < w.switches → T (knows (s.switch i).stamp (s.switch i).held)
  pub met : (j q i p : ℕ) → Cable w j q i p → (c : Carried) → Memᴰ (frame c) (s.queue j q) → T (knows c.frame.version (s.switch i).held)
  -- no packet that comes in later at the same switch goes by an earlier plan
  pub later : (a b c : List Done) (i : ℕ) (p q : Packet) (es fs : List Event) → ds ≡ a ++ (did (Enter i p) es ∷ (b ++ (did (Enter i q) fs ∷ c))) →
      (x : State) × (y : State) × Played w a x × Played w (a ++ (did (Enter i p) es ∷ b)) y × ((x.switch i).stamp ≤ (y.switch i).stamp)
  -- where the desk is told to be idle, every switch holds the new plan's table and no other, and stamps with it
  pub idle : (d : Done) → Memᴰ d ds → (v : ℕ) → Memᴰ (Staged Idle v) d.told →
      (b : Behind w ds d) × ((i : ℕ) → i < w.switches → Holds b.state.plans i (λ u. u ≡ v) (b.state.switch i).held × ((b.state.switch i).stamp ≡ v))

abbrev pub Rehearsal : Type 0
Rehearsal = (w : Net) → GoodNet w → (ds : List Done) (s : State) → Played w ds s → Kept w ds s
