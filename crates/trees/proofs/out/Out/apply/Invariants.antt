-- The fields so far are those of the copy.
use Rattle.std.proofs.Common.{◌≡◌, length, take}
use Rattle.trees.specs.Outs.{applied}
use Rattle.trees.proofs.out.Out.apply.Given as goal

abbrev pub invariant-loop-field : goal.invariant-loop-field
invariant-loop-field l = (l.p.fields ≡ applied (take l.field l.set-items) l.initial.p.fields) × (length l.p.fields ≡ 8)
