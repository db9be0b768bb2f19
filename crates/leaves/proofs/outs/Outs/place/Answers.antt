use Rattle.std.proofs.Common.{rules}
use Rattle.std.proofs.lemmas.Fn.{always_returns_same}
use Rattle.leaves.specs.Outs.{out_cmp}
use Rattle.leaves.proofs.outs.Outs.place.Goals as goal

-- the closure compares with o
pub returns-clause-place : goal.returns-clause-place
returns-clause-place c = c.binary_search_by.ensures.position (λ u. out_cmp u c.args.o.now) (always_returns_same _ _ _ (λ a r g called. search rules))
