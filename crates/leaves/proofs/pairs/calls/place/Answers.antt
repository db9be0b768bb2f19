use Rattle.std.proofs.Common.{rules}
use Rattle.std.proofs.lemmas.Fn.{always_returns_same}
use Rattle.leaves.specs.Pairs.{pair_cmp}
use Rattle.leaves.proofs.pairs.calls.place.Goals as goal

-- the closure compares with p
pub returns-clause-place : goal.returns-clause-place
returns-clause-place c = c.binary_search_by.ensures.position (λ q. pair_cmp q c.args.p) (always_returns_same _ _ _ (λ a r g called. search rules))
