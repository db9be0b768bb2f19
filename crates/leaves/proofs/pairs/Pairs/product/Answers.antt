use Rattle.std.proofs.Common.{◌≡◌, ◌+◌, refl, ap, ◌∙◌, arith}
use Rattle.leaves.specs.Pairs.{wants_of, pairs_in}
use Rattle.leaves.proofs.Counting.{product_to, product_step, product_all, product_within}
use Rattle.leaves.proofs.pairs.Pairs.product.Goals as goal

pub loop-f-init : goal.loop-f-init
unfolding product_to
loop-f-init c = (refl, omega arith)

pub returns-then-all-gt-LEAVES : goal.returns-then-all-gt-LEAVES
returns-then-all-gt-LEAVES c =
    let ws = pairs_in c.args.self.now in
    let e = product_step c.loop-f.f _ _ ws _ c.loop-f.invariant.0 c.values-all.ensures.value (ap wants_of c.as_slice.ensures.value) in
    record { cases = omega (arith, e, product_within (c.loop-f.f + 1) ws (omega arith), c.if-all-gt-LEAVES.true) }

pub loop-f-preserved : goal.loop-f-preserved
loop-f-preserved c = (
  product_step c.loop-f.f _ _ (pairs_in c.args.self.now) _ c.loop-f.invariant.0 c.values-all.ensures.value (ap wants_of c.as_slice.ensures.value),
  c.if-all-gt-LEAVES.false,
)

pub returns : goal.returns
returns c =
    let ws = pairs_in c.args.self.now in
    let done : c.loop-f.f ≡ 8 = omega arith in
    let e = c.loop-f.invariant.0 ∙ ap (λ k. product_to k ws) done ∙ product_all ws in
    record { cases = (e, omega (arith, e)) }
