-- The bytes of a frame: 64, version, hops, eight fields.
use Rattle.std.specs.Prelude.{ℕ, zero, suc, List, [], ◌∷◌, ◌++◌, nat_eq}
use Rattle.std.specs.List.{flat_map}
use Rattle.octets.specs.Parse.{Got, Read, and_then, byte, word, word_bytes}
use Rattle.packet.specs.declared.packets.Packet.{Packet}
use Rattle.wire.specs.declared.frame.Frame.{Frame}
use Rattle.octets.specs.Parse.{tested, kind, below}

-- k fields more, behind those of ps
abbrev pub fields : ℕ → List ℕ → List ℕ → Got (List ℕ)
fields zero ps bs = Read ps bs
fields (suc k) ps bs = and_then (word bs) (λ x r. fields k (ps ++ x ∷ []) r)

-- the field 0 of a packet that comes in at a port
abbrev pub entry : ℕ → List ℕ → Got ℕ
entry port = tested word (λ x. nat_eq x port) 2

abbrev pub framed : ℕ → ℕ → List ℕ → Frame
framed v t ps = record { version = v; hops = t; packet = record { fields = ps } }

-- a frame that comes over a cable in at a port, in a net of h hops
abbrev pub cabled : ℕ → ℕ → List ℕ → Got Frame
cabled h port bs =
    and_then (kind 64 bs) (λ k r.
    and_then (word r) (λ v q.
    and_then (below h q) (λ t p.
    and_then (entry port p) (λ x o.
    and_then (fields 7 (x ∷ []) o) (λ ps e. Read (framed v t ps) e)))))

-- a frame from outside: version and hops are there, and say nothing
abbrev pub outside : List ℕ → Got Packet
outside bs =
    and_then (kind 64 bs) (λ k r.
    and_then (word r) (λ v q.
    and_then (byte q) (λ t p.
    and_then (fields 8 [] p) (λ ps e. Read (record { fields = ps }) e))))

abbrev pub frame_bytes : Frame → List ℕ
frame_bytes f = 64 ∷ (word_bytes f.version ++ f.hops ∷ flat_map word_bytes f.packet.fields)
