-- The wants, and the outs behind them.
use Rattle.std.proofs.Common.{refl}
use Rattle.table.specs.Words.{wants_words, outs_words, rule_words}
use Rattle.tablebytes.specs.Format as spec
use Rattle.tablebytes.proofs.Filling.{gave_both}
use Rattle.tablebytes.proofs.filler.Filler.rule.Goals as goal

pub returns : goal.returns
returns c =
    gave_both wants_words outs_words rule_words (λ ws os. record { wants = ws; outs = os }) (λ ws os. refl) spec.wants spec.outs c.args.self.now
    c.pairs.new.self c.outs.new.self c.outs.result c.in_ok-pairs.ensures.wants c.outs.ensures
