use Rattle.std.proofs.Common.{◌≡◌, ◌≤◌}
use Rattle.leaves.specs.Pairs.{pairs_in}
use Rattle.leaves.proofs.Counting.{product_to}
use Rattle.leaves.proofs.pairs.Pairs.product.Given as goal

abbrev pub invariant-loop-f : goal.invariant-loop-f
invariant-loop-f l = (l.all ≡ product_to l.f (pairs_in l.self)) × (l.all ≤ 65536)
