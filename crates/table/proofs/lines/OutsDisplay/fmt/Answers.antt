-- The first out and the others behind it.
use Rattle.std.proofs.Common.{codes, sym, ap, refl, ◌∙◌}
use Rattle.std.proofs.Output.{has_written_append, has_written_of_eq}
use Rattle.table.specs.Lines.{out_text}
use Rattle.table.specs.Views.{settings_in, outs_in}
use Rattle.table.proofs.Alike.{shown}
use Rattle.table.proofs.lines.OutsDisplay.fmt.Goals as goal

pub returns-clause-writes : goal.returns-clause-writes
returns-clause-writes g c =
    λ plain ok.
    let first = c.in_ok-write.ensures.writes plain refl in
    let others = ap outs_in (sym c.into_iter-pairs-iterator.ensures.into_iter_gives) ∙ c.loop-pairs.invariant.2 in
    has_written_of_eq _ _ _ _ _
    (shown (codes "drop") (codes " | ") out_text settings_in _ _ (outs_in c.loop-pairs.pairs-iterator) c.in-Some.pairs c.loop-pairs.yielded c.in-Some.ensures.steps others c.in-None.ensures.steps.0)
    (has_written_append _ _ _ _ _ _ first (c.loop-pairs.invariant.3 first.plain))
