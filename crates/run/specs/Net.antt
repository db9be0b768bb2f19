-- The net: switches and cables, plans, and where a packet leaves by a plan's texts alone.
use Rattle.std.specs.Prelude.{◌≡◌, ℕ, suc, ◌<◌, ◌≤◌}
use mathlib.Core.List.{Memᴰ}
use Rattle.packet.specs.Packet.{Packet, field, put}
use Rattle.packet.specs.Policy.{Policy, copies, InRange}
use Rattle.packet.specs.Table.{Table, Right}

-- what hangs on a port
pub data Wire : Type 0 where
  Outside : Wire
  To : (switch port : ℕ) → Wire
  Nothing : Wire

-- a text and a table for each switch
pub record Plan : Type 0 where
  pub text : ℕ → Policy
  pub table : ℕ → Table

-- switches and ports are numbered from 0. hops: how many cables a packet may go over. first: the plan of version 0
pub record Net : Type 0 where
  pub switches : ℕ
  pub ports : ℕ
  pub hops : ℕ
  pub wire : ℕ → ℕ → Wire
  pub first : Plan

-- what goes out of port q of switch j comes in at port p of switch i
abbrev pub Cable : Net → ℕ → ℕ → ℕ → ℕ → Type 0
Cable w j q i p = w.wire j q ≡ To i p

-- each table gives the copies of its text, and copies of packets are packets
pub record GoodPlan (w : Net) (a : Plan) : Type 0 where
  pub in_range : (i : ℕ) → i < w.switches → InRange (a.text i)
  pub right : (i : ℕ) → i < w.switches → Right (a.text i) (a.table i)

-- each cable goes both ways and ends at a port of a switch, and a port's number fits into a field
pub record GoodNet (w : Net) : Type 0 where
  pub both : (j q i p : ℕ) → Cable w j q i p → Cable w i p j q
  pub ends : (j q i p : ℕ) → Cable w j q i p → (i < w.switches) × (p < w.ports)
  pub fits : w.ports ≤ 65536
  pub plan : GoodPlan w w.first

-- by the texts alone, a packet that is at switch i as p with h hops left leaves at switch k as o
pub data Goes (w : Net) (texts : ℕ → Policy) : ℕ → ℕ → Packet → ℕ → Packet → Type 0 where
  out : {h i : ℕ} {p o : Packet} → Memᴰ o (copies (texts i) p) → w.wire i (field 0 o) ≡ Outside → Goes w texts h i p i o
  on : {h i k : ℕ} {p o : Packet} (c : Packet) → Memᴰ c (copies (texts i) p) → (j q : ℕ) → Cable w i (field 0 c) j q → Goes w texts h j (put 0 q c) k o → Goes w texts (suc h) i p k o

-- a packet that comes in at switch i as p leaves at switch k as o
abbrev pub Leaves : Net → Plan → ℕ → Packet → ℕ → Packet → Type 0
Leaves w a i p k o = Goes w a.text w.hops i p k o
