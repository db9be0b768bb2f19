use Rattle.std.proofs.Common.{◌++◌, get_or, take, codes}
use Rattle.std.specs.Fmt.{HasWritten, IsPlainFormatter}
use Rattle.std.specs.List.{flat_map}
use Rattle.script.specs.Events.{said}
use Rattle.script.proofs.event.lines.FieldsDisplay.fmt.Given as goal

-- the fields so far
abbrev pub invariant-loop-field : goal.invariant-loop-field
invariant-loop-field g l =
    IsPlainFormatter l.fn.f → HasWritten g.W.Write.write_str_gives l.fn.f (said (codes " ") (get_or l.self.0.fields 0 0) ++ flat_map (said (codes ",")) (take l.field-index l.others)) l.f
