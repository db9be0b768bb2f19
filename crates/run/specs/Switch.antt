-- One switch: what it keeps, and what it makes of an order, of a mark and of a packet.
-- Its functions know of the net only the number of ports and what hangs on each of its own.
use Rattle.std.specs.Prelude.{ℕ, zero, suc, pred, ◌+◌, Bool, true, false, cond, not, ◌&&◌, ◌||◌, List, [], ◌∷◌, ◌++◌, filter, ◌==◌, nat_le, nat_lt}
use Rattle.packet.specs.Packet.{Packet, field, put}
use Rattle.packet.specs.Table.{Table, sent}
use Rattle.run.specs.At.{at}
use Rattle.run.specs.Net.{Wire, Outside, To, Nothing}
use Rattle.run.specs.Order.{Order, Install, Stamp, Round, Remove, Answer, answer_to}

-- a mark is put on the cables in a round of a version's change. Rounds count from 1: version 0 and round 0 stand for no mark
pub record Mark : Type 0 where
  pub version : ℕ
  pub round : ℕ

abbrev pub mark_of : ℕ → ℕ → Mark
mark_of v r = record { version = v; round = r }

-- a is later than b: versions first, then rounds
abbrev pub later : Mark → Mark → Bool
later a b = nat_lt b.version a.version || (b.version == a.version && nat_lt b.round a.round)

-- hops: how many cables the packet may still go over
pub record Frame : Type 0 where
  pub version : ℕ
  pub hops : ℕ
  pub packet : Packet

pub record Held : Type 0 where
  pub version : ℕ
  pub table : Table

-- stamp: the version of what comes in from outside. floor: no version below it is taken in. latest: the latest mark that came in at a port
pub record Switch : Type 0 where
  pub held : List Held
  pub stamp : ℕ
  pub floor : ℕ
  pub latest : ℕ → Mark

-- what a switch sends: an answer to the desk, a mark or a frame out of a port with a cable, or a packet to the outside
pub data Message : Type 0 where
  Reply : Answer → Message
  MarkOn : (port : ℕ) → Mark → Message
  FrameOn : (port : ℕ) → Frame → Message
  Leave : Packet → Message

-- what a switch is afterwards, and what it sends, in this order
pub record Turn : Type 0 where
  pub after : Switch
  pub sends : List Message

unfoldable pub knows : ℕ → List Held → Bool
knows v [] = false
knows v (x ∷ xs) = v == x.version || knows v xs

-- the table of a version that is there
unfoldable pub table_of : ℕ → List Held → Table
table_of v [] = []
table_of v (x ∷ xs) = cond (v == x.version) x.table (table_of v xs)

-- the versions that go when v is removed
abbrev pub gone : ℕ → ℕ → Bool
gone v u = u == v

abbrev pub without : ℕ → List Held → List Held
without v xs = filter (λ x. not (gone v x.version)) xs

abbrev pub first_switch : Table → Switch
first_switch t = record { held = record { version = 0; table = t } ∷ []; stamp = 0; floor = 0; latest = λ p. mark_of 0 0 }

abbrev pub with_held : List Held → Switch → Switch
with_held xs x = record { held = xs; stamp = x.stamp; floor = x.floor; latest = x.latest }

abbrev pub with_stamp : ℕ → Switch → Switch
with_stamp v x = record { held = x.held; stamp = v; floor = x.floor; latest = x.latest }

abbrev pub with_floor : ℕ → Switch → Switch
with_floor v x = record { held = x.held; stamp = x.stamp; floor = v; latest = x.latest }

abbrev pub with_latest : ℕ → Mark → Switch → Switch
with_latest p m x = record { held = x.held; stamp = x.stamp; floor = x.floor; latest = at p m x.latest }

-- taken in unless it is below the floor or there
abbrev pub install : ℕ → Table → Switch → Switch
install v t x = cond (nat_le x.floor v && not (knows v x.held)) (with_held (x.held ++ (record { version = v; table = t } ∷ [])) x) x

-- if it is above the stamp and its table is there
abbrev pub stamp_with : ℕ → Switch → Switch
stamp_with v x = cond (nat_lt x.stamp v && knows v x.held) (with_stamp v x) x

-- if it is below the stamp; the floor becomes one more than it if it was lower
abbrev pub remove : ℕ → Switch → Switch
remove v x = cond (nat_lt v x.stamp) (with_floor (cond (nat_le x.floor v) (v + 1) x.floor) (with_held (without v x.held) x)) x

-- kept if it is later than the latest at its port
abbrev pub keep_mark : ℕ → Mark → Switch → Switch
keep_mark p m x = cond (later m (x.latest p)) (with_latest p m x) x

abbrev pub obey : Order → Switch → Switch
obey (Install v t) x = install v t x
obey (Stamp v) x = stamp_with v x
obey (Round v r) x = x
obey (Remove v) x = remove v x

abbrev pub is_cable : Wire → Bool
is_cable Outside = false
is_cable (To j q) = true
is_cable Nothing = false

-- a mark out of each of the first n ports that has a cable
unfoldable pub marks_on : ℕ → (ℕ → Wire) → Mark → List Message
marks_on zero wire m = []
marks_on (suc p) wire m = marks_on p wire m ++ cond (is_cable (wire p)) (MarkOn p m ∷ []) []

abbrev pub marks_for : ℕ → (ℕ → Wire) → Order → List Message
marks_for n wire (Install v t) = []
marks_for n wire (Stamp v) = []
marks_for n wire (Round v r) = marks_on n wire (mark_of v r)
marks_for n wire (Remove v) = []

-- the latest mark l is of m's version and of its round or a higher one
abbrev pub reaches : Mark → Mark → Bool
reaches m l = l.version == m.version && nat_le m.round l.round

-- so at each of the first n ports that has a cable
unfoldable pub all_reach : ℕ → (ℕ → Wire) → Mark → (ℕ → Mark) → Bool
all_reach zero wire m latest = true
all_reach (suc p) wire m latest = all_reach p wire m latest && (not (is_cable (wire p)) || reaches m (latest p))

abbrev pub done : ℕ → (ℕ → Wire) → Order → Switch → Bool
done n wire (Install v t) x = knows v x.held
done n wire (Stamp v) x = x.stamp == v
done n wire (Round v r) x = all_reach n wire (mark_of v r) x.latest
done n wire (Remove v) x = not (knows v x.held)

-- an order comes: it is carried out and, if it is then done, answered
abbrev pub take_order : ℕ → (ℕ → Wire) → Order → Switch → Turn
take_order n wire o x = record { after = obey o x; sends = marks_for n wire o ++ cond (done n wire o (obey o x)) (Reply (answer_to o) ∷ []) [] }

-- a mark comes in at port p
abbrev pub take_mark : ℕ → Mark → Switch → Turn
take_mark p m x = record { after = keep_mark p m x; sends = [] }

-- the frame of a packet from outside
abbrev pub fresh : ℕ → Packet → Switch → Frame
fresh h p x = record { version = x.stamp; hops = h; packet = p }

-- the frame of a copy o that goes over a cable to port q
abbrev pub onward : Frame → ℕ → Packet → Frame
onward f q o = record { version = f.version; hops = pred f.hops; packet = put 0 q o }

-- one copy goes out where its field 0 says; with no hops left only to the outside
abbrev pub pass_on : Frame → Packet → Wire → List Message
pass_on f o Outside = Leave o ∷ []
pass_on f o (To j q) = cond (f.hops == 0) [] (FrameOn (field 0 o) (onward f q o) ∷ [])
pass_on f o Nothing = []

unfoldable pub pass_all : (ℕ → Wire) → Frame → List Packet → List Message
pass_all wire f [] = []
pass_all wire f (o ∷ os) = pass_on f o (wire (field 0 o)) ++ pass_all wire f os

-- a frame comes in: its copies by the table of its version; without that table it is gone
abbrev pub take_frame : (ℕ → Wire) → Frame → Switch → Turn
take_frame wire f x = record { after = x; sends = cond (knows f.version x.held) (pass_all wire f (sent (table_of f.version x.held) f.packet)) [] }

-- a packet comes in from outside
abbrev pub take_packet : ℕ → (ℕ → Wire) → Packet → Switch → Turn
take_packet h wire p x = take_frame wire (fresh h p x) x
