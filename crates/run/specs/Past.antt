-- What has been ordered and answered so far, told from the desk's versions and its stage alone. So neither the desk nor a net has to
-- keep a list of it: it keeps, for each switch, whether the order of the stage was answered.
use Rattle.std.specs.Prelude.{◌≡◌, ℕ, ◌+◌, ◌<◌, ◌≤◌, not, ◌&&◌, T, ◌⊎◌, List, [], ◌∷◌, length, nat_le}
use mathlib.Core.List.{Memᴰ}
use Rattle.packet.specs.Table.{Table}
use Rattle.run.specs.Net.{Plan, Net, GoodNet}
use Rattle.run.specs.Order.{Order, Install, Stamp, Round, Remove, Answer, Installed, Stamped, Reached, Removed, answer_to}
use Rattle.run.specs.Switch.{knows}
use Rattle.run.specs.Desk.{Stage, Idle, Installing, Stamping, Flushing, Removing, Desk}
use Rattle.run.specs.Run.{State, Reach}

-- how far a change with so many rounds has come
abbrev pub rank : ℕ → Stage → ℕ
rank rounds Idle = 0
rank rounds Installing = 1
rank rounds Stamping = 2
rank rounds (Flushing r) = r + 2
rank rounds Removing = rounds + 3

-- a desk with these two versions, whose change has come as far as k, has given the order that has this answer
abbrev pub AskedAt : (rounds from to k : ℕ) → Answer → Type 0
AskedAt rounds from to k (Installed v) = (1 ≤ v) × (v ≤ to)
AskedAt rounds from to k (Stamped v) = (1 ≤ v) × ((v ≤ from) ⊎ ((v ≡ to) × (2 ≤ k)))
AskedAt rounds from to k (Reached v r) = (1 ≤ v) × (1 ≤ r) × (r ≤ rounds) × ((v ≤ from) ⊎ ((v ≡ to) × (r + 2 ≤ k)))
AskedAt rounds from to k (Removed v) = (v < from) ⊎ ((v ≡ from) × (rounds + 3 ≤ k))

abbrev pub WasAsked : ℕ → Desk → Answer → Type 0
WasAsked rounds d a = AskedAt rounds d.from d.to (rank rounds d.stage) a

-- the answer to the order of a stage: one, and none when the desk is idle
abbrev pub awaited_in : (from to : ℕ) → Stage → List Answer
awaited_in from to Idle = []
awaited_in from to Installing = Installed to ∷ []
awaited_in from to Stamping = Stamped to ∷ []
awaited_in from to (Flushing r) = Reached to r ∷ []
awaited_in from to Removing = Removed from ∷ []

-- the one that the desk waits for
abbrev pub awaited : Desk → List Answer
awaited d = awaited_in d.from d.to d.stage

-- the order to switch i that has this answer: an install carries the table of its version's plan
abbrev pub order_for : (ℕ → Plan) → ℕ → Answer → Order
order_for plans i (Installed v) = Install v ((plans v).table i)
order_for plans i (Stamped v) = Stamp v
order_for plans i (Reached v r) = Round v r
order_for plans i (Removed v) = Remove v

-- in s
pub record Past (w : Net) (s : State) : Type 0 where
  -- the orders that were given are those that the desk's versions and stage tell, each with its plan's table
  pub given : (i : ℕ) (o : Order) → Memᴰ o (s.given i) → WasAsked w.hops s.desk (answer_to o) × (o ≡ order_for s.plans i (answer_to o))
  pub all_given : (i : ℕ) (a : Answer) → WasAsked w.hops s.desk a → Memᴰ (order_for s.plans i a) (s.given i)
  -- only what was ordered was answered, and all of it, but perhaps the order of the stage
  pub answered : (i : ℕ) (a : Answer) → Memᴰ a (s.answered i) → WasAsked w.hops s.desk a
  pub all_answered : (i : ℕ) → i < w.switches → (a : Answer) → WasAsked w.hops s.desk a → Memᴰ a (awaited s.desk) ⊎ Memᴰ a (s.answered i)
  -- a switch that is to take in a table holds one at most, so two places always suffice
  pub room : (i : ℕ) → i < w.switches → (v : ℕ) (t : Table) → Memᴰ (Install v t) (s.given i) →
      T (nat_le (s.switch i).floor v && not (knows v (s.switch i).held)) → length (s.switch i).held ≤ 1

abbrev pub PastIsTold : Type 0
PastIsTold = (w : Net) → GoodNet w → (s : State) → Reach w s → Past w s
