use Rattle.levels.proofs.Cutting.{one_rule_below}
use Rattle.levels.proofs.one_rule_stands.Goals as goal

pub returns : goal.returns
returns c = record { rule = one_rule_below }
