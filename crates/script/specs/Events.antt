-- The printed line of each event, without the end of the line.
use Rattle.std.specs.Prelude.{ℕ, List, [], ◌∷◌, ◌++◌, codes, decimal}
use Rattle.std.specs.List.{flat_map}
use Rattle.octets.specs.Faults.{number}
use Rattle.packet.specs.declared.packets.Packet.{Packet}
use Rattle.wire.specs.declared.frame.Frame.{Frame}
use Rattle.wire.specs.declared.mark.Mark.{Mark}
use Rattle.script.specs.declared.event.Stage.{Stage}
use Rattle.script.specs.declared.event.Stage.TheVariants.{Installing, Stamping, Flushing, Removing, Idle}
use Rattle.script.specs.declared.event.Held.{Held}
use Rattle.script.specs.declared.event.Held.TheVariants.{None, One, Two}
use Rattle.script.specs.declared.event.Event.{Event}
use Rattle.script.specs.declared.event.Event.TheVariants as event

-- a word, and a number behind it
abbrev pub said : List ℕ → ℕ → List ℕ
said word n = word ++ decimal n

-- the fields of a packet behind a blank, with commas between them
abbrev pub fields_text : List ℕ → List ℕ
fields_text [] = []
fields_text (x ∷ xs) = said (codes " ") x ++ flat_map (said (codes ",")) xs

abbrev pub packet_text : Packet → List ℕ
packet_text p = fields_text p.fields

-- entrance, packet, version, exit, packet
abbrev pub left_line : ℕ → Packet → ℕ → ℕ → Packet → List ℕ
left_line from first version at last =
    said (codes "left from ") from ++ (packet_text first ++ (said (codes " version ") version ++ (said (codes " at ") at ++ packet_text last)))

-- the cable's switch and port, version, hops, fields
abbrev pub lost_frame_line : ℕ → ℕ → Frame → List ℕ
lost_frame_line switch port f =
    said (codes "lost ") switch ++ (said (codes " ") port ++ (said (codes " frame ") f.version ++ (said (codes " ") f.hops ++ packet_text f.packet)))

-- the cable's switch and port, version, round
abbrev pub lost_mark_line : ℕ → ℕ → Mark → List ℕ
lost_mark_line switch port m =
    said (codes "lost ") switch ++ (said (codes " ") port ++ (said (codes " mark ") m.version ++ said (codes " ") m.round))

abbrev pub stage_line : Stage → List ℕ
stage_line (Installing v) = said (codes "stage installing ") v
stage_line (Stamping v) = said (codes "stage stamping ") v
stage_line (Flushing v r) = said (codes "stage flushing ") v ++ said (codes " ") r
stage_line (Removing v) = said (codes "stage removing ") v
stage_line (Idle v) = said (codes "stage idle ") v

-- each version behind a blank
abbrev pub held_text : Held → List ℕ
held_text None = []
held_text (One v) = said (codes " ") v
held_text (Two v w) = said (codes " ") v ++ said (codes " ") w

abbrev pub switch_line : ℕ → Held → ℕ → ℕ → List ℕ
switch_line number held stamp floor =
    said (codes "switch ") number ++ (codes " versions" ++ (held_text held ++ (said (codes " stamp ") stamp ++ said (codes " floor ") floor)))

abbrev pub line_of : Event → List ℕ
line_of (event.Left from first version at last) = left_line from first version at last
line_of (event.LostFrame switch port frame) = lost_frame_line switch port frame
line_of (event.LostMark switch port mark) = lost_mark_line switch port mark
line_of (event.Stage s) = stage_line s
line_of (event.Switch number versions stamp floor) = switch_line number versions stamp floor
line_of (event.Refused fault) = said (codes "refused ") (number fault)
line_of event.Impossible = codes "impossible"
