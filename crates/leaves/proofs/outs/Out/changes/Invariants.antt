use Rattle.std.proofs.Common.{◌≡◌, ◌≤◌, ◌++◌, length, drop}
use Rattle.prescribed.specs.Table.{changes}
use Rattle.leaves.specs.Outs.{settings_of}
use Rattle.leaves.proofs.outs.Out.changes.Given as goal

abbrev pub invariant-loop-f : goal.invariant-loop-f
invariant-loop-f l =
    (length (settings_of l.out) ≤ l.f)
    × (settings_of l.out ++ changes l.f (drop l.f l.fn.p.fields) (drop l.f l.fn.copy.fields) ≡ changes 0 l.fn.p.fields l.fn.copy.fields)
