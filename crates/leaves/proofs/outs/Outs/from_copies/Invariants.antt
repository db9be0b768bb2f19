use Rattle.std.proofs.Common.{◌≡◌, ◌≤◌, map, length, take}
use Rattle.packet.specs.Listed.{fields_of}
use Rattle.prescribed.specs.Order.{rising, less_out}
use Rattle.prescribed.specs.Table.{changes}
use Rattle.leaves.specs.Outs.{outs_of}
use Rattle.leaves.proofs.outs.Outs.from_copies.Given as goal

abbrev pub invariant-loop-q : goal.invariant-loop-q
invariant-loop-q l =
    (length (outs_of l.all) ≤ l.q-index)
    × (outs_of l.all ≡ rising less_out (map (changes 0 l.p.fields) (fields_of (take l.q-index l.copies))))
