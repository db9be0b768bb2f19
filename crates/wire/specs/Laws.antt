-- Reading and writing undo each other, and a reader takes just what the writer makes.
use Rattle.std.specs.Prelude.{◌≡◌, ℕ, ◌<◌, ◌≤◌, List, [], ◌++◌, length, take, slice_index_or}
use Rattle.octets.specs.Parse.{Got, Read, Bad, Bytes}
use Rattle.wire.specs.declared.order.Order.{Order}
use Rattle.wire.specs.declared.order.Order.TheVariants.{Install, Stamp, Round, Remove}
use Rattle.wire.specs.declared.order.Letter.{Letter}
use Rattle.wire.specs.declared.mark.Mark.{Mark}
use Rattle.wire.specs.declared.frame.Frame.{Frame}
use Rattle.octets.specs.Parse.{alone}
use Rattle.wire.specs.Orders.{kind_of, version_of, round_of, order_of, order_in, letter, letter_bytes}
use Rattle.wire.specs.Marks.{mark, mark_bytes}
use Rattle.wire.specs.Frames.{cabled, outside, frame_bytes}
use Rattle.wire.specs.declared.list.End.{End}
use Rattle.wire.specs.declared.list.Cable.{Cable}
use Rattle.wire.specs.Wires.{bare, Sound}
use Rattle.wire.specs.Lists.{layout_bytes, plugged, opened, AllPluggable, AllOpenable}
use Rattle.wire.specs.Layouts.{Layout, layout}

-- taken: what was written of a good value reads as it, with nothing behind it
-- back: and with whatever follows
-- only: what reads is good, and was written so
-- front: no proper front of what reads does; it is cut short
pub record Exact {X : Type 0} (reader : List ℕ → Got X) (written : X → List ℕ) (Good : X → Type 0) : Type 0 where
  pub taken : (x : X) → Good x → alone reader (written x) ≡ Read x []
  pub back : (x : X) (rest : List ℕ) → Good x → reader (written x ++ rest) ≡ Read x rest
  pub only : (x : X) (bs rest : List ℕ) → Bytes bs → reader bs ≡ Read x rest → Good x × (bs ≡ written x ++ rest)
  pub front : (x : X) (bs : List ℕ) (k : ℕ) → alone reader bs ≡ Read x [] → k < length bs → alone reader (take k bs) ≡ Bad 1

-- the round of a round is 1 to h
abbrev pub Rounded : ℕ → Order → Type 0
Rounded h (Install v) = Unit {0}
Rounded h (Stamp v) = Unit {0}
Rounded h (Round v m) = (1 ≤ m) × (m ≤ h)
Rounded h (Remove v) = Unit {0}

pub record GoodLetter (n h : ℕ) (l : Letter) : Type 0 where
  pub there : l.switch < n
  pub rounded : Rounded h (order_in l.message)

pub record GoodMark (h : ℕ) (m : Mark) : Type 0 where
  pub some : 1 ≤ m.round
  pub most : m.round ≤ h

pub record GoodFrame (h port : ℕ) (f : Frame) : Type 0 where
  pub eight : length f.packet.fields ≡ 8
  pub entry : slice_index_or f.packet.fields 0 0 ≡ port
  pub few : f.hops < h

-- orders and their kinds belong to each other one to one
pub record Kinds : Type 0 where
  pub of_order : (o : Order) → (kind_of o < 4) × (order_of (kind_of o) (version_of o) (round_of o) ≡ o)
  pub of_kind : (k v m : ℕ) → k < 4 → kind_of (order_of k v m) ≡ k

abbrev pub Orders : Type 0
Orders = (n h : ℕ) → Exact (letter n h) letter_bytes (GoodLetter n h)

abbrev pub Marks : Type 0
Marks = (h : ℕ) → Exact (mark h) mark_bytes (GoodMark h)

abbrev pub Frames : Type 0
Frames = (h port : ℕ) → Exact (cabled h port) frame_bytes (GoodFrame h port)

-- what was written as a frame reads from outside as its packet
abbrev pub Outside : Type 0
Outside = (f : Frame) (rest : List ℕ) → length f.packet.fields ≡ 8 → outside (frame_bytes f ++ rest) ≡ Read f.packet rest

-- what reads as a list of cables is within the limits, and its cables are those of a net
pub record GoodLayout (x : Layout) : Type 0 where
  pub switches : (1 ≤ x.switches) × (x.switches ≤ 24)
  pub ports : (1 ≤ x.ports) × (x.ports ≤ 32)
  pub hops : x.hops ≤ 16
  pub sound : Sound x.switches x.ports x.wire

abbrev pub Cabled : Type 0
Cabled = (bs rest : List ℕ) (x : Layout) → layout bs ≡ Read x rest → GoodLayout x

-- what was written as a list of cables reads as the wires that it names
pub record GoodList (n ports h : ℕ) (cs : List Cable) (es : List End) : Type 0 where
  pub switches : (1 ≤ n) × (n ≤ 24)
  pub wide : (1 ≤ ports) × (ports ≤ 32)
  pub hops : h ≤ 16
  pub plugs : AllPluggable n ports bare cs
  pub opens : AllOpenable n ports (plugged cs bare) es

abbrev pub Listed : Type 0
Listed =
    (n ports h : ℕ) (cs : List Cable) (es : List End) (rest : List ℕ) → GoodList n ports h cs es →
    layout (layout_bytes n ports h cs es ++ rest) ≡ Read (record { switches = n; ports = ports; hops = h; wire = opened es (plugged cs bare) }) rest
