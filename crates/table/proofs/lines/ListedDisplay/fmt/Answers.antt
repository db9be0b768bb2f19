-- The first pair and the others behind it.
use Rattle.std.proofs.Common.{map, codes, sym, ap, refl, ◌∙◌}
use Rattle.std.proofs.Output.{has_written_append, has_written_of_eq}
use Rattle.packet.specs.Pairs.{setting_of}
use Rattle.table.specs.Lines.{setting_text}
use Rattle.table.specs.Views.{settings_in}
use Rattle.table.proofs.Alike.{shown}
use Rattle.table.proofs.lines.ListedDisplay.fmt.Goals as goal

pub returns-clause-writes : goal.returns-clause-writes
returns-clause-writes g c =
    λ plain ok.
    let first = c.in_ok-write.ensures.writes plain refl in
    let others = ap settings_in (sym c.into_iter-pair-iterator.ensures.into_iter_gives) ∙ c.loop-pair.invariant.2 in
    has_written_of_eq _ _ _ _ _
    (shown c.args.self.now.none.now (codes " ") setting_text setting_of _ _ (settings_in c.loop-pair.pair-iterator) c.in-Some.first c.loop-pair.yielded (ap (map setting_of) c.in-Some.ensures.steps) others (ap (map setting_of) c.in-None.ensures.steps.0))
    (has_written_append _ _ _ _ _ _ first (c.loop-pair.invariant.3 first.plain))
