use Rattle.std.proofs.Common.{◌≤◌, drop, Some, Ok, ap, ◌∙◌, subst, arith, length-take}
use Rattle.std.proofs.lemmas.Result.{err_from_is_err_and}
use Rattle.leaves.specs.Pairs.{wants_of}
use Rattle.prescribed.specs.Table.{whole_table}
use Rattle.prescribed.specs.Fit.{product}
use Rattle.maker.specs.Knowing.{known_of}
use Rattle.maker.specs.Making.{MadeOf}
use Rattle.maker.specs.Makers.{policy_of}
use Rattle.maker.proofs.Handing.{held}
use Rattle.maker.proofs.Wholes.{first_task, whole_crowded, whole_over, whole_within, whole_front, whole_many, whole_table_lem}
use Rattle.maker.proofs.maker.Maker.whole.Goals as goal

pub make-requires : goal.make-requires
make-requires c =
    let m = c.args.self.now in
    let e = c.as_slice.ensures.value in
    record {
      task =
          first_task (policy_of m) c.as_slice.result.now (e ∙ held m) c.none-known.result c.none-known.ensures.known c.as_slice.ensures.low
          (ap (λ p. p.fields) c.none-known.ensures.sample ∙ m.blank_of) _ (omega (arith, c.requires.room, ap product e));
    }

pub returns-in_err-made-clause-whole : goal.returns-in_err-made-clause-whole
returns-in_err-made-clause-whole c =
    let m = c.args.self.now in
    let ps = c.as_slice.result.now in
    let e = c.as_slice.ensures.value in
    let pairs = e ∙ held m in
    let none = c.none-known.ensures.known in
    let small : product (wants_of ps) ≤ 65536 = omega (arith, c.requires.product, ap product e) in
    let h = whole_crowded (policy_of m) ps pairs c.none-known.result none small c.make.new.out c.in_err-made.field-0.0 c.in_err-made.ensures.made in
    let p = err_from_is_err_and c.from_residual.result c.from_residual.ensures.1 in
    rw (p.1, p.2) h

pub returns-in_default-clause-whole : goal.returns-in_default-clause-whole
returns-in_default-clause-whole c =
    let m = c.args.self.now in
    let ps = c.as_slice.result.now in
    let e = c.as_slice.ensures.value in
    let pairs = e ∙ held m in
    let none = c.none-known.ensures.known in
    let small : product (wants_of ps) ≤ 65536 = omega (arith, c.requires.product, ap product e) in
    whole_over (policy_of m) ps pairs c.none-known.result none small c.make.new.out
    (subst (λ z. MadeOf (policy_of m) (wants_of (drop 0 ps)) (known_of c.none-known.result) c.make.new.out (Ok z)) c.in_default.is c.in_ok-made.ensures.made)

pub slice_bounds-end-end : goal.slice_bounds-end-end
slice_bounds-end-end c =
    let m = c.args.self.now in
    let ps = c.as_slice.result.now in
    let e = c.as_slice.ensures.value in
    let pairs = e ∙ held m in
    let none = c.none-known.ensures.known in
    let small : product (wants_of ps) ≤ 65536 = omega (arith, c.requires.product, ap product e) in
    let made : MadeOf (policy_of m) (wants_of (drop 0 ps)) (known_of c.none-known.result) c.make.new.out (Ok (Some c.in-Some.made))
    = subst (λ z. MadeOf (policy_of m) (wants_of (drop 0 ps)) (known_of c.none-known.result) c.make.new.out (Ok z)) c.in-Some.is c.in_ok-made.ensures.made in
    let within = whole_within (policy_of m) ps pairs c.none-known.result none small c.make.new.out c.in-Some.made made c.as_slice.ensures.low in
    omega (arith, within, c.requires.room, ap product e, c.make.auto.out)

pub slice_bounds-end-end-2 : goal.slice_bounds-end-end-2
slice_bounds-end-end-2 c =
    let m = c.args.self.now in
    let ps = c.as_slice.result.now in
    let e = c.as_slice.ensures.value in
    let pairs = e ∙ held m in
    let none = c.none-known.ensures.known in
    let small : product (wants_of ps) ≤ 65536 = omega (arith, c.requires.product, ap product e) in
    let made : MadeOf (policy_of m) (wants_of (drop 0 ps)) (known_of c.none-known.result) c.make.new.out (Ok (Some c.in-Some.made))
    = subst (λ z. MadeOf (policy_of m) (wants_of (drop 0 ps)) (known_of c.none-known.result) c.make.new.out (Ok z)) c.in-Some.is c.in_ok-made.ensures.made in
    let within = whole_within (policy_of m) ps pairs c.none-known.result none small c.make.new.out c.in-Some.made made c.as_slice.ensures.low in
    omega (arith, length-take c.in-Some.made.words c.make.new.out, within, c.requires.room, ap product e, c.make.auto.out)

pub returns-then-left-gt-MOST-clause-whole : goal.returns-then-left-gt-MOST-clause-whole
returns-then-left-gt-MOST-clause-whole c =
    let m = c.args.self.now in
    let ps = c.as_slice.result.now in
    let e = c.as_slice.ensures.value in
    let pairs = e ∙ held m in
    let none = c.none-known.ensures.known in
    let small : product (wants_of ps) ≤ 65536 = omega (arith, c.requires.product, ap product e) in
    let made : MadeOf (policy_of m) (wants_of (drop 0 ps)) (known_of c.none-known.result) c.make.new.out (Ok (Some c.in-Some.made))
    = subst (λ z. MadeOf (policy_of m) (wants_of (drop 0 ps)) (known_of c.none-known.result) c.make.new.out (Ok z)) c.in-Some.is c.in_ok-made.ensures.made in
    let ended = c.end-left.ensures.value (whole_table (policy_of m)) (whole_front (policy_of m) ps pairs c.none-known.result none small c.make.new.out c.in-Some.made made) in
    whole_many (policy_of m) ps pairs c.none-known.result none small c.make.new.out c.in-Some.made made c.end-left.result ended c.if-left-gt-MOST.true

pub returns-clause-whole : goal.returns-clause-whole
returns-clause-whole c =
    let m = c.args.self.now in
    let ps = c.as_slice.result.now in
    let e = c.as_slice.ensures.value in
    let pairs = e ∙ held m in
    let none = c.none-known.ensures.known in
    let small : product (wants_of ps) ≤ 65536 = omega (arith, c.requires.product, ap product e) in
    let made : MadeOf (policy_of m) (wants_of (drop 0 ps)) (known_of c.none-known.result) c.make.new.out (Ok (Some c.in-Some.made))
    = subst (λ z. MadeOf (policy_of m) (wants_of (drop 0 ps)) (known_of c.none-known.result) c.make.new.out (Ok z)) c.in-Some.is c.in_ok-made.ensures.made in
    let within = whole_within (policy_of m) ps pairs c.none-known.result none small c.make.new.out c.in-Some.made made c.as_slice.ensures.low in
    let ended = c.end-left.ensures.value (whole_table (policy_of m)) (whole_front (policy_of m) ps pairs c.none-known.result none small c.make.new.out c.in-Some.made made) in
    whole_table_lem (policy_of m) ps pairs c.none-known.result none small c.make.new.out c.in-Some.made made c.end-left.result ended c.if-left-gt-MOST.false
    (omega (arith, c.end-left.ensures.bound, length-take c.in-Some.made.words c.make.new.out))
    (omega (arith, within, c.requires.room, ap product e, c.make.auto.out))
