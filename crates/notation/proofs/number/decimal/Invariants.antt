use Rattle.std.proofs.Common.{◌≡◌, ◌≤◌, drop}
use Rattle.notation.specs.Numbers.{goes_on, capped}
use Rattle.notation.proofs.number.decimal.Given as goal

abbrev pub invariant-loop-b : goal.invariant-loop-b
invariant-loop-b l = (capped (goes_on l.n (drop l.b-index l.word)) ≡ capped (goes_on 0 l.word)) × (l.n ≤ 4294967295)
