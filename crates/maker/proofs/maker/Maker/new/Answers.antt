use Rattle.std.proofs.Common.{sym, ap, ◌∙◌}
use Rattle.text.specs.Texts.{nodes_of}
use Rattle.text.specs.Trees.{meaning}
use Rattle.prescribed.specs.Table.{pairs_of, unnamed, same_want}
use Rattle.prescribed.proofs.Same.{compares_lists, compares_wants}
use Rattle.maker.proofs.maker.Maker.new.Goals as goal

pub invariant_of-result : goal.invariant_of-result
invariant_of-result c = record {
  pairs_of = (compares_lists same_want compares_wants _ _).1 (c.in_ok-pairs.ensures.made ∙ ap (λ t. pairs_of (meaning (nodes_of t))) (sym c.in_ok-evaluator.ensures.made));
  blank_of = c.unnamed-blank.ensures.value ∙ ap (λ t. unnamed (meaning (nodes_of t))) (sym c.in_ok-evaluator.ensures.made);
}
