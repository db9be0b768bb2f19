use Rattle.std.proofs.Common.{◌≡◌, [], ◌∷◌, length, None, Err, vec_items, sym, ap, ◌∙◌, inr, arith}
use Rattle.plan.specs.Slots.{given}
use Rattle.std.proofs.lemmas.List.{nil_from_length}
use Rattle.std.proofs.lemmas.Result.{err_from_is_err_and}
use Rattle.std.specs.Option.{ok_or}
use Rattle.std.specs.Result.{result_ok}
use Rattle.octets.specs.declared.fault.Fault.TheVariants.{Range}
use Rattle.octets.specs.Faults.{number}
use Rattle.octets.specs.Parse.{Bad}
use Rattle.plan.proofs.Whole.{gather_none, gather_more, gather_missing, gather_all}
use Rattle.plan.proofs.Sizes.{whole_size}
use Rattle.plan.proofs.Good.{parts_good}
use Rattle.plan.proofs.builder.Builder.finish.Goals as goal

pub loop-slot-init : goal.loop-slot-init
loop-slot-init c =
    let m = c.in_ok-parts.ensures in
    let is : c.into_iter-slot-iterator.result.rest.items ≡ vec_items c.args.self.parts = c.into_iter-slot-iterator.ensures.into_iter_gives.0 in
    let long : length c.into_iter-slot-iterator.result.rest.items ≡ length (vec_items c.args.self.parts) = ap length is in
    (gather_none (vec_items c.args.self.parts) _ _ m.items is, omega (arith, m.len, m.capacity, c.len.ensures, c.args.self.parts.ok.0), omega (arith, m.len, c.args.self.parts.ok.0))

pub returns-in_err-ok_or-clause-value : goal.returns-in_err-ok_or-clause-value
returns-in_err-ok_or-clause-value c =
    let more = c.next.new.self.rest.items in
    let step : c.loop-slot.slot-iterator.rest.items ≡ c.in-Some.slot ∷ more = c.in-Some.ensures.steps.0 in
    let none : c.in-Some.slot ≡ None = c.ok_or.ensures.ok_part ∙ ap result_ok c.in_err-ok_or.was in
    let says : Err c.in_err-ok_or.field-0.0 ≡ Err Range = sym c.in_err-ok_or.was ∙ c.ok_or.ensures.value ∙ ap (λ o. ok_or o Range) none in
    let fault : c.in_err-ok_or.field-0.0 ≡ Range = cc in
    let p = err_from_is_err_and c.from_residual-in_err-ok_or.result c.from_residual-in_err-ok_or.ensures.1 in
    rw p.1 (inr (ap (λ f. Bad (number f)) (p.2 ∙ fault) ∙ sym (ap (λ o. given o []) (gather_missing _ _ _ c.loop-slot.invariant.0 more (step ∙ ap (λ x. x ∷ more) none)))))

pub push_reserved-requires : goal.push_reserved-requires
push_reserved-requires c =
    let step : c.loop-slot.slot-iterator.rest.items ≡ c.in-Some.slot ∷ c.next.new.self.rest.items = c.in-Some.ensures.steps.0 in
    let long : length c.loop-slot.slot-iterator.rest.items ≡ length (c.in-Some.slot ∷ c.next.new.self.rest.items) = ap length step in
    omega (arith, c.loop-slot.invariant.1)

pub loop-slot-preserved : goal.loop-slot-preserved
loop-slot-preserved c =
    let more = c.next.new.self.rest.items in
    let step : c.loop-slot.slot-iterator.rest.items ≡ c.in-Some.slot ∷ more = c.in-Some.ensures.steps.0 in
    let long : length c.loop-slot.slot-iterator.rest.items ≡ length (c.in-Some.slot ∷ more) = ap length step in
    let e = c.push_reserved.ensures in (
      gather_more _ _ _ c.loop-slot.invariant.0 c.in_ok-ok_or.field-0 more _ (step ∙ ap (λ x. x ∷ more) (c.ok_or.ensures.ok_part ∙ ap result_ok c.in_ok-ok_or.was)) e.items,
      omega (arith, c.loop-slot.invariant.1, e.len, e.capacity),
      omega (arith, c.loop-slot.invariant.2, e.len),
    )

pub returns : goal.returns
returns c =
    let it = c.loop-slot.slot-iterator.rest in
    let none : it.len ≡ 0 = c.in-None.ensures.steps.0 in
    let all = gather_all _ _ _ c.loop-slot.invariant.0 (nil_from_length it.items (omega (arith, it.ok.0))) in
    record { value = sym (ap (λ o. given o []) all); good = parts_good (vec_items c.loop-slot.parts) _ (whole_size _ _ all) }
