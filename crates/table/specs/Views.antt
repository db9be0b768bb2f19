-- What the values of the code stand for.
--   wants_in, settings_in   the wants of a rule, the settings of an out
--   outs_in                the outs of a rule
--   rule_of                a rule
--   rules_in               the rules of a table
--   Decided t p r          r is the rule with which the table t decides about the packet p
use Rattle.std.specs.Prelude.{◌≡◌, List, [], Option, MatchOption}
use Rattle.packet.specs.Packet.{Packet}
use Rattle.packet.specs.Table as model
use Rattle.packet.specs.Table.{decided}
use Rattle.table.specs.declared.outs.Outs.{Outs}
use Rattle.table.specs.declared.pairs.Pairs.{Pairs}
use Rattle.table.specs.declared.rules.Rule.{Rule}
use Rattle.table.specs.declared.tables.Table.{Table}
use Rattle.table.specs.Words.{wants_of, settings_of, outs_from, rules_of}

abbrev pub wants_in : Pairs → List model.Want
wants_in ps = wants_of ps.words.now

abbrev pub settings_in : Pairs → List model.Setting
settings_in ps = settings_of ps.words.now

abbrev pub outs_in : Outs → List (List model.Setting)
outs_in os = outs_from os.left os.words.now

abbrev pub rule_of : Rule → model.Rule
rule_of r = record { wants = wants_in r.wants; outs = outs_in r.outs }

abbrev pub rules_in : Table → model.Table
rules_in t = rules_of t.words.now

abbrev pub Decided : model.Table → Packet → Option Rule → Type 0
Decided t p r = MatchOption r (decided t p ≡ []) (λ rule. decided t p ≡ (rule_of rule).outs)
