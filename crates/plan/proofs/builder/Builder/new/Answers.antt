-- Each place is empty.
use Rattle.std.proofs.Common.{rules, arith}
use Rattle.plan.proofs.Empty.{empty_places}
use Rattle.plan.proofs.builder.Builder.new.Goals as goal

pub returns : goal.returns
returns c =
    let h = c.in_ok-resize_with.ensures in
    record { made = empty_places _ (λ f x g k. search rules) _ _ _ h.items.0 h.items.1 _ c.args.switches c.new-parts.ensures.items h.items.2 (omega (arith, h.len, c.from.ensures, c.resize_with.new.self.ok.0)) h.items.3 }
