-- The first packet, and those behind it so far.
use Rattle.std.proofs.Common.{◌≡◌, ◌++◌, string_bytes, take}
use Rattle.packet.specs.Listed.{fields_of}
use Rattle.differ.specs.Lines.{more_text}
use Rattle.differ.proofs.lines.set.Given as goal

abbrev pub invariant-loop-next : goal.invariant-loop-next
invariant-loop-next l = string_bytes l.text ≡ string_bytes l.initial.text ++ more_text (fields_of (take l.next-index l.rest))
