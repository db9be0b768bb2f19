-- The desk: it leads the switches from one version to the next, stage by stage.
use Rattle.std.specs.Prelude.{ℕ, ◌+◌, ◌<◌, Bool, true, false, cond, T, List, [], ◌∷◌, Some, None, Option, nat_lt}
use Rattle.packet.specs.Table.{Table}
use Rattle.run.specs.At.{at}
use Rattle.run.specs.Order.{Order, Install, Stamp, Round, Remove}

pub data Stage : Type 0 where
  Idle : Stage
  Installing : Stage
  Stamping : Stage
  Flushing : (r : ℕ) → Stage
  Removing : Stage

-- a change leads from version `from` to version `to`; between changes the two are the same. seen: the switches that have answered in this stage
pub record Desk : Type 0 where
  pub from : ℕ
  pub to : ℕ
  pub stage : Stage
  pub seen : ℕ → Bool

abbrev pub first_desk : Desk
first_desk = record { from = 0; to = 0; stage = Idle; seen = λ i. false }

abbrev pub last_version : ℕ
last_version = 65535

-- a change is under way
abbrev pub Busy : Stage → Type 0
Busy Idle = ⊥
Busy Installing = Unit {0}
Busy Stamping = Unit {0}
Busy (Flushing r) = Unit {0}
Busy Removing = Unit {0}

-- the orders of a stage, to a switch whose new table is t: one, and none when the desk is idle
abbrev pub orders_in : (from to : ℕ) → Table → Stage → List Order
orders_in from to t Idle = []
orders_in from to t Installing = Install to t ∷ []
orders_in from to t Stamping = Stamp to ∷ []
orders_in from to t (Flushing r) = Round to r ∷ []
orders_in from to t Removing = Remove from ∷ []

-- those that the desk now gives
abbrev pub orders_of : Desk → Table → List Order
orders_of d t = orders_in d.from d.to t d.stage

-- switch i has answered the order of the stage
abbrev pub heard : ℕ → Desk → Desk
heard i d = record { from = d.from; to = d.to; stage = d.stage; seen = at i true d.seen }

-- the first n switches have
abbrev pub AllSeen : ℕ → Desk → Type 0
AllSeen n d = (i : ℕ) → i < n → T (d.seen i)

abbrev pub moved : Stage → Desk → Desk
moved g d = record { from = d.from; to = d.to; stage = g; seen = λ i. false }

-- the stage behind round r
abbrev pub after_round : ℕ → ℕ → Stage
after_round rounds r = cond (nat_lt r rounds) (Flushing (r + 1)) Removing

abbrev pub on_from : ℕ → Desk → Stage → Desk
on_from rounds d Idle = d
on_from rounds d Installing = moved Stamping d
on_from rounds d Stamping = moved (after_round rounds 0) d
on_from rounds d (Flushing r) = moved (after_round rounds r) d
on_from rounds d Removing = record { from = d.to; to = d.to; stage = Idle; seen = λ i. false }

-- all have answered: the desk goes on to the next stage
abbrev pub onwards : ℕ → Desk → Desk
onwards rounds d = on_from rounds d d.stage

-- the version of the next change
abbrev pub next_version : Desk → Option ℕ
next_version d = cond (nat_lt d.to last_version) (Some (d.to + 1)) None

-- a change to version v begins
abbrev pub changed : ℕ → Desk → Desk
changed v d = record { from = d.from; to = v; stage = Installing; seen = λ i. false }
