-- The words are those of the text's table.
use Rattle.std.proofs.Common.{sym, ap, ◌∙◌}
use Rattle.prescribed.specs.Table.{same_rule}
use Rattle.prescribed.proofs.Same.{compares_lists, compares_rules}
use Rattle.plan.specs.Values.{all_small}
use Rattle.plan.proofs.part.Part.new.Goals as goal

pub invariant_of-result : goal.invariant_of-result
invariant_of-result c =
    let m = c.in_ok-words.ensures.cases in
    record {
      small = ap all_small (sym c.nodes.ensures.value) ∙ c.look.ensures.small;
      fits = m.fits;
      sound = m.sound;
      table = (compares_lists same_rule compares_rules _ _).1 m.rules;
    }
