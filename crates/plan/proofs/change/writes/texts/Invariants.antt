use Rattle.std.proofs.Common.{◌≡◌, ◌++◌, map, take, vec_items}
use Rattle.plan.specs.Changes as spec
use Rattle.plan.specs.Parts.{text_in}
use Rattle.plan.proofs.change.writes.texts.Given as goal

abbrev pub invariant-loop-i : goal.invariant-loop-i
invariant-loop-i l = vec_items l.out ≡ vec_items l.initial.out ++ spec.texts_bytes 0 (map text_in (take l.i l.parts))
