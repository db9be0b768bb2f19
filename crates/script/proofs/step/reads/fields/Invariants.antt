use Rattle.std.proofs.Common.{◌≡◌, [], ◌-◌, length, take}
use Rattle.notation.specs.Words.{left}
use Rattle.script.specs.Steps.{numbers}
use Rattle.script.proofs.step.reads.fields.Given as goal

-- the words that are left go on to give the same numbers
abbrev pub invariant-loop-field : goal.invariant-loop-field
invariant-loop-field l =
    (length l.field-items ≡ 8)
    × (numbers (8 - l.field-index) (take l.field-index l.field-items) (left l.words) ≡ numbers 8 [] (left l.fn.words))
