use Rattle.std.proofs.Common.{◌<◌, length, sym, refl, arith}
use Rattle.std.proofs.lemmas.Bool.{eqb-true, eqb-false}
use Rattle.notation.specs.declared.marks.Mark.TheVariants.{Newline}
use Rattle.notation.proofs.Turns.{parts_at, no_parts}
use Rattle.script.proofs.header.lines.Lines.next.Goals as goal

pub returns-then-is_empty : goal.returns-then-is_empty
returns-then-is_empty c = record { cases = sym (no_parts Newline c.args.self.now.left.now (eqb-true _ 0 (sym c.if-is_empty.ensures))) }

pub returns : goal.returns
returns c =
    let bs = c.args.self.now.left.now in
    let more : 0 < length bs = omega (arith, eqb-false (length bs) 0 (sym c.if-is_empty.ensures)) in
    record { cases = (refl, refl, sym (parts_at Newline bs _ _ more c.cut.ensures.front c.cut.ensures.back), omega (arith, c.cut.ensures.shorter)) }
