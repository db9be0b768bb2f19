-- Which rules are printed, and which are left.
use Rattle.std.proofs.Common.{◌≡◌, ◌∷◌, [], ◌++◌, map}
use Rattle.std.specs.Fmt.{HasWritten, IsPlainFormatter}
use Rattle.std.specs.List.{flat_map}
use Rattle.table.specs.Lines.{rule_text}
use Rattle.table.specs.Views.{rule_of, rules_in}
use Rattle.table.proofs.lines.TableDisplay.fmt.Given as goal

abbrev pub invariant-loop-rule : goal.invariant-loop-rule
invariant-loop-rule g l =
    (goal.iterator-loop-rule g).can_next l.rule-iterator
    × (goal.iterator-loop-rule g).is_finite l.rule-iterator
    × (rules_in l.fn.self ≡ map rule_of l.yielded ++ rules_in l.rule-iterator.left)
    × (IsPlainFormatter l.initial.f → HasWritten g.W.Write.write_str_gives l.initial.f (flat_map (λ r. rule_text (rule_of r) ++ 10 ∷ []) l.yielded) l.f)
