-- What a net keeps of a state. Nothing that only grows is kept: not what has come in, left or fallen, nor which orders were given; of the answers only
-- whether each switch has sent the one that the desk waits for.
use Rattle.std.specs.Prelude.{◌≡◌, ℕ, ◌<◌, Bool, T, List, map}
use mathlib.Core.List.{Memᴰ}
use Rattle.run.specs.Net.{Plan, Net}
use Rattle.run.specs.Order.{Answer}
use Rattle.run.specs.Switch.{Switch}
use Rattle.run.specs.Desk.{Stage, Idle, Installing, Stamping, Flushing, Removing, Desk}
use Rattle.run.specs.Run.{Item, State}
use Rattle.run.specs.Past.{awaited}

-- I: how an item lies on a cable. old, new: the plans of the desk's two versions. said: the switches that have sent the awaited answer
pub record View (I : Type 0) : Type 0 where
  pub switch : ℕ → Switch
  pub lines : ℕ → ℕ → List I
  pub desk : Desk
  pub old : Plan
  pub new : Plan
  pub said : ℕ → Bool

-- the view shows the state s. stored: how an item is kept
pub record Shows (w : Net) {I : Type 0} (stored : Item → I) (v : View I) (s : State) : Type 0 where
  pub switch : (i : ℕ) → i < w.switches → v.switch i ≡ s.switch i
  pub lines : (j q : ℕ) → v.lines j q ≡ map stored (s.queue j q)
  pub desk : v.desk ≡ s.desk
  pub old : v.old ≡ s.plans s.desk.from
  pub new : v.new ≡ s.plans s.desk.to
  pub said : (i : ℕ) → i < w.switches → (a : Answer) → Memᴰ a (awaited s.desk) → (T (v.said i) → Memᴰ a (s.answered i)) × (Memᴰ a (s.answered i) → T (v.said i))

-- the plan of the old version when the desk goes on from a stage: a change that is done leaves the new one
abbrev pub olden : Stage → Plan → Plan → Plan
olden Idle old new = old
olden Installing old new = old
olden Stamping old new = old
olden (Flushing r) old new = old
olden Removing old new = new
