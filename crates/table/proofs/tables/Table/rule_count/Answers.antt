-- The rules are few.
use Rattle.std.proofs.Common.{arith, inl}
use Rattle.table.specs.Words.{most_rules}
use Rattle.table.proofs.Reading.{rules_few}
use Rattle.table.proofs.tables.Table.rule_count.Goals as goal

pub count-requires-clause-fits : goal.count-requires-clause-fits
count-requires-clause-fits c = inl (omega (arith, rules_few most_rules c.rules.result.left.words.now))
