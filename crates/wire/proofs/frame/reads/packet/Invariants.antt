use Rattle.std.proofs.Common.{◌≡◌, [], ◌∷◌, ◌-◌, length, take}
use Rattle.octets.specs.Readers.{rest}
use Rattle.wire.specs.Frames.{fields}
use Rattle.wire.proofs.frame.reads.packet.Given as goal

-- what is left to read goes on to give the same fields
abbrev pub invariant-loop-field : goal.invariant-loop-field
invariant-loop-field l =
    (length l.field-items ≡ 7)
    × (fields (7 - l.field-index) (l.first ∷ take l.field-index l.field-items) (rest l.c) ≡ fields 7 (l.fn.first ∷ []) (rest l.fn.c))
