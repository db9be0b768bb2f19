-- What a desk in memory stands for in the run.
-- desk_of, stage_of, order_of: a desk, a stage, an order in the run's words. Awaits: which answer the desk waits for. begun, Heard, Refused: what it makes of a change and of an answer.
use Rattle.std.specs.Prelude.{◌≡◌, ℕ, ◌<◌, ◌≤◌, false, List, [], ◌∷◌, Some, None, Ok, Err, Option, Result, slice_index_or}
use Rattle.octets.specs.declared.fault.Fault.{Fault}
use Rattle.octets.specs.declared.fault.Fault.TheVariants.{Range, Busy, LastVersion, OtherOrder}
use Rattle.packet.specs.Table.{Table}
use Rattle.run.specs.Order as run
use Rattle.run.specs.Desk as lead
use Rattle.run.specs.Desk.{AllSeen, orders_of, heard, onwards, next_version, changed}
use Rattle.desk.specs.declared.Stage.{Stage}
use Rattle.desk.specs.declared.Stage.TheVariants.{Idle, Installing, Stamping, Flushing, Removing}
use Rattle.wire.specs.declared.order.Order.{Order}
use Rattle.wire.specs.declared.order.Order.TheVariants.{Install, Stamp, Round, Remove}
use Rattle.desk.specs.declared.Desk.{Desk}

-- the switches that a desk can lead
abbrev pub most : ℕ
most = 24

abbrev pub stage_of : Stage → lead.Stage
stage_of Idle = lead.Idle
stage_of Installing = lead.Installing
stage_of Stamping = lead.Stamping
stage_of (Flushing r) = lead.Flushing r
stage_of Removing = lead.Removing

abbrev pub desk_of : Desk → lead.Desk
desk_of d = record { from = d.from; to = d.to; stage = stage_of d.stage; seen = λ i. slice_index_or d.seen i false }

-- a desk that has heard no answer yet
abbrev pub begins : ℕ → ℕ → lead.Stage → lead.Desk
begins v w g = record { from = v; to = w; stage = g; seen = λ i. false }

-- an order to a switch whose new table is t
abbrev pub order_of : Table → Order → run.Order
order_of t (Install v) = run.Install v t
order_of t (Stamp v) = run.Stamp v
order_of t (Round v r) = run.Round v r
order_of t (Remove v) = run.Remove v

abbrev pub listed : Table → Option Order → List run.Order
listed t None = []
listed t (Some o) = order_of t o ∷ []

-- o is the order of the desk's stage, whatever table goes with it
abbrev pub Awaits : lead.Desk → Order → Type 0
Awaits d o = (t : Table) → orders_of d t ≡ listed t (Some o)

abbrev pub told : Result Desk Fault → Result lead.Desk Fault
told (Ok d) = Ok (desk_of d)
told (Err e) = Err e

-- a change begins with the next version, if there is one
abbrev pub begun_at : Option ℕ → lead.Desk → Result lead.Desk Fault
begun_at None d = Err LastVersion
begun_at (Some v) d = Ok (changed v d)

abbrev pub begun_in : lead.Stage → lead.Desk → Result lead.Desk Fault
begun_in lead.Idle d = begun_at (next_version d) d
begun_in lead.Installing d = Err Busy
begun_in lead.Stamping d = Err Busy
begun_in (lead.Flushing r) d = Err Busy
begun_in lead.Removing d = Err Busy

-- unless another one is under way
abbrev pub begun : lead.Desk → Result lead.Desk Fault
begun d = begun_in d.stage d

-- switch i answers order o to the desk d, which is e afterwards: once the first n switches have answered, it goes on
pub record Heard (n rounds i : ℕ) (o : Order) (d e : lead.Desk) : Type 0 where
  pub switch : i < most
  pub awaited : Awaits d o
  pub last : AllSeen n (heard i d) → e ≡ onwards rounds (heard i d)
  pub waits : (AllSeen n (heard i d) → ⊥) → e ≡ heard i d

-- an answer that is refused: first a switch out of range, then an order that is not the stage's
abbrev pub Refused : ℕ → Order → lead.Desk → Fault → Type 0
Refused i o d e = (most ≤ i → e ≡ Range) × (i < most → (e ≡ OtherOrder) × (Awaits d o → ⊥))
