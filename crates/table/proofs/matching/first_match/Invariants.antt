-- The rules that are left decide as all of them do, and the wants that are left are met where all of the rule's are.
use Rattle.std.proofs.Common.{◌≡◌}
use Rattle.packet.specs.Table.{meets_all, decided}
use Rattle.table.specs.Views.{wants_in, rules_in}
use Rattle.table.proofs.matching.first_match.Given as goal

abbrev pub invariant-rules : goal.invariant-rules
invariant-rules l =
    (goal.iterator-rules).can_next l.rule-iterator
    × (goal.iterator-rules).is_finite l.rule-iterator
    × (decided (rules_in l.rule-iterator.left) l.p.fields ≡ decided (rules_in l.fn.table) l.p.fields)

abbrev pub invariant-loop-want : goal.invariant-loop-want
invariant-loop-want l =
    (goal.iterator-loop-want).can_next l.want-iterator
    × (goal.iterator-loop-want).is_finite l.want-iterator
    × (meets_all (wants_in l.want-iterator) l.p.fields ≡ meets_all (wants_in l.rule.wants) l.p.fields)
