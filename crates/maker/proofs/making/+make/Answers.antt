use Rattle.std.proofs.Common.{◌≡◌, ℕ, ◌+◌, ◌-◌, ◌≤◌, List, length, drop, Some, Ok, Err, Result, sym, ap, ◌∙◌, subst, arith, rules}
use Rattle.std.proofs.lemmas.List.{take_rest, length-drop}
use Rattle.octets.specs.declared.fault.Fault.{Fault}
use Rattle.packet.specs.Policy.{Policy}
use Rattle.packet.specs.Table.{Want}
use Rattle.packet.specs.declared.pair.Pair.{Pair}
use Rattle.text.specs.declared.texts.Text.{Text}
use Rattle.text.specs.Texts.{nodes_of}
use Rattle.text.specs.Trees.{meaning}
use Rattle.meaning.specs.declared.evaluator.Evaluator.{Evaluator}
use Rattle.meaning.specs.Evaluators.{text_of}
use Rattle.maker.specs.declared.known.Known.{Known}
use Rattle.leaves.specs.Pairs.{wants_of}
use Rattle.maker.specs.Knowing.{known_of}
use Rattle.maker.specs.Making.{Made, MadeOf}
use Rattle.maker.specs.Tasks.{Task}
use Rattle.maker.proofs.Recursing.{failed}
use Rattle.maker.proofs.Turns.{task_known, turn_known, room_for_leaf, room_for_both, task_yes, task_no, fits_behind, turn_crowded_y, turn_crowded_n, turn_over_y, turn_over_n, turn_joined, front_stays, back_is, whole_length}
use Rattle.maker.proofs.making.+make.Goals as goal

-- what is made for a text is made for one that is the same
same_made : (t u : Text) → t ≡ u → (ws known : List Want) (out : List ℕ) (r : Result Made Fault) → MadeOf (meaning (nodes_of t)) ws known out r → MadeOf (meaning (nodes_of u)) ws known out r
same_made t u e ws known out r h = subst (λ x. MadeOf (meaning (nodes_of x)) ws known out r) e h

same_task : (t u : Text) → u ≡ t → (ps : List Pair) (i : ℕ) (k : Known) (words : ℕ) → Task (meaning (nodes_of t)) ps i k words → Task (meaning (nodes_of u)) ps i k words
same_task t u e ps i k words h = subst (λ x. Task (meaning (nodes_of x)) ps i k words) (sym e) h

-- the policy that an evaluator works out
abbrev plan : Evaluator → Policy
plan e = meaning (nodes_of (text_of e))

pub leaf-requires-clause-room : goal.leaf-requires-clause-room
leaf-requires-clause-room t c =
    let a = plan c.args.evaluator.now in
    let ps = c.args.pairs.now in
    let k = c.args.known.now in
    let lent = length c.args.out.now in
    room_for_leaf a ps c.args.i k lent c.requires.task c.if-i-pairs.true

pub make-requires : goal.make-requires
make-requires t c =
    let a = plan c.args.evaluator.now in
    let ps = c.args.pairs.now in
    let k = c.args.known.now in
    let lent = length c.args.out.now in
    let new = sym c.if-knows.ensures.value in
    (search rules, task_known a ps c.args.i k lent c.requires.task c.if-i-pairs.false new)

pub returns-then-knows-clause-made : goal.returns-then-knows-clause-made
returns-then-knows-clause-made t c =
    let a = plan c.args.evaluator.now in
    let ps = c.args.pairs.now in
    let k = c.args.known.now in
    let lent = length c.args.out.now in
    let new = sym c.if-knows.ensures.value in
    turn_known a ps c.args.i k lent c.requires.task c.if-i-pairs.false new c.make.new.out c.make.result c.make.ensures.made

pub make-requires-2 : goal.make-requires-2
make-requires-2 t c =
    let a = plan c.args.evaluator.now in
    let ps = c.args.pairs.now in
    let k = c.args.known.now in
    let lent = length c.args.out.now in
    let new = sym c.if-knows.ensures.value in
    (search rules, task_yes a ps c.args.i k lent c.requires.task c.if-i-pairs.false new c.with-with.result c.with-with.ensures.known c.with-with.ensures.sample)

pub returns-in_err-yes-clause-made : goal.returns-in_err-yes-clause-made
returns-in_err-yes-clause-made t c =
    let a = plan c.args.evaluator.now in
    let ps = c.args.pairs.now in
    let k = c.args.known.now in
    let lent = length c.args.out.now in
    let new = sym c.if-knows.ensures.value in
    failed _ _ _ _ _ _ (turn_crowded_y a ps c.args.i k lent c.requires.task c.if-i-pairs.false new c.with-with.result c.with-with.ensures.known c.make-2.new.out c.make-2.new.out c.in_err-yes.field-0.0 c.in_err-yes.ensures.made) c.from_residual.ensures.1

pub make-requires-in_default : goal.make-requires-in_default
make-requires-in_default t c =
    let a = plan c.args.evaluator.now in
    let ps = c.args.pairs.now in
    let k = c.args.known.now in
    let lent = length c.args.out.now in
    let new = sym c.if-knows.ensures.value in
    (search rules, same_task _ _ c.in_ok-yes.ensures.text ps _ k _ (task_no a ps c.args.i k lent c.requires.task c.if-i-pairs.false new _ (omega (arith, room_for_both a ps c.args.i k lent c.requires.task c.if-i-pairs.false new))))

pub returns-in-Err-clause-made : goal.returns-in-Err-clause-made
returns-in-Err-clause-made t c =
    let a = plan c.args.evaluator.now in
    let ps = c.args.pairs.now in
    let k = c.args.known.now in
    let lent = length c.args.out.now in
    let new = sym c.if-knows.ensures.value in
    let h =
    turn_crowded_n a ps c.args.i k lent c.requires.task c.if-i-pairs.false new c.with-with.result c.with-with.ensures.known c.make-in_default.new.out c.make-in_default.new.out c.in-Err.fault
    (same_made _ _ c.in_ok-yes.ensures.text _ _ c.make-in_default.new.out (Err c.in-Err.fault) c.in-Err.ensures.made) in
    (h.0, cc h.1)

pub returns-in-Ok-clause-made : goal.returns-in-Ok-clause-made
returns-in-Ok-clause-made t c =
    let a = plan c.args.evaluator.now in
    let ps = c.args.pairs.now in
    let k = c.args.known.now in
    let lent = length c.args.out.now in
    let new = sym c.if-knows.ensures.value in
    let y = subst (λ m. MadeOf a (wants_of (drop (c.args.i + 1) ps)) (known_of c.with-with.result) c.make-2.new.out (Ok m)) c.in_default.is c.in_ok-yes.ensures.made in
    turn_over_y a ps c.args.i k lent c.requires.task c.if-i-pairs.false new c.with-with.result c.with-with.ensures.known c.make-2.new.out c.make-in_default.new.out c.make-in_default.new.out c.in-Ok.field-0 y
    (same_made _ _ c.in_ok-yes.ensures.text _ _ c.make-in_default.new.out (Ok c.in-Ok.field-0) c.in-Ok.ensures.made)

pub offset_bounds-out-yes : goal.offset_bounds-out-yes
offset_bounds-out-yes t c =
    let a = plan c.args.evaluator.now in
    let ps = c.args.pairs.now in
    let k = c.args.known.now in
    let lent = length c.args.out.now in
    let new = sym c.if-knows.ensures.value in
    let y : MadeOf a (wants_of (drop (c.args.i + 1) ps)) (known_of c.with-with.result) c.make-2.new.out (Ok (Some c.in-Some.yes)) = subst (λ m. MadeOf a (wants_of (drop (c.args.i + 1) ps)) (known_of c.with-with.result) c.make-2.new.out (Ok m)) c.in-Some.is c.in_ok-yes.ensures.made in
    let behind = fits_behind a ps c.args.i k lent c.requires.task c.if-i-pairs.false new c.with-with.result c.with-with.ensures.known c.make-2.new.out c.in-Some.yes y in
    omega (arith, behind)

pub slice_bounds-make-count : goal.slice_bounds-make-count
slice_bounds-make-count t c =
    let a = plan c.args.evaluator.now in
    let ps = c.args.pairs.now in
    let k = c.args.known.now in
    let lent = length c.args.out.now in
    let new = sym c.if-knows.ensures.value in
    let y : MadeOf a (wants_of (drop (c.args.i + 1) ps)) (known_of c.with-with.result) c.make-2.new.out (Ok (Some c.in-Some.yes)) = subst (λ m. MadeOf a (wants_of (drop (c.args.i + 1) ps)) (known_of c.with-with.result) c.make-2.new.out (Ok m)) c.in-Some.is c.in_ok-yes.ensures.made in
    let behind = fits_behind a ps c.args.i k lent c.requires.task c.if-i-pairs.false new c.with-with.result c.with-with.ensures.known c.make-2.new.out c.in-Some.yes y in
    omega (arith, behind)

pub slice_bounds-make-start : goal.slice_bounds-make-start
slice_bounds-make-start t c =
    let a = plan c.args.evaluator.now in
    let ps = c.args.pairs.now in
    let k = c.args.known.now in
    let lent = length c.args.out.now in
    let new = sym c.if-knows.ensures.value in
    let y : MadeOf a (wants_of (drop (c.args.i + 1) ps)) (known_of c.with-with.result) c.make-2.new.out (Ok (Some c.in-Some.yes)) = subst (λ m. MadeOf a (wants_of (drop (c.args.i + 1) ps)) (known_of c.with-with.result) c.make-2.new.out (Ok m)) c.in-Some.is c.in_ok-yes.ensures.made in
    let behind = fits_behind a ps c.args.i k lent c.requires.task c.if-i-pairs.false new c.with-with.result c.with-with.ensures.known c.make-2.new.out c.in-Some.yes y in
    omega (arith, behind)

pub make-requires-3 : goal.make-requires-3
make-requires-3 t c =
    let a = plan c.args.evaluator.now in
    let ps = c.args.pairs.now in
    let k = c.args.known.now in
    let lent = length c.args.out.now in
    let new = sym c.if-knows.ensures.value in
    let y : MadeOf a (wants_of (drop (c.args.i + 1) ps)) (known_of c.with-with.result) c.make-2.new.out (Ok (Some c.in-Some.yes)) = subst (λ m. MadeOf a (wants_of (drop (c.args.i + 1) ps)) (known_of c.with-with.result) c.make-2.new.out (Ok m)) c.in-Some.is c.in_ok-yes.ensures.made in
    let behind = fits_behind a ps c.args.i k lent c.requires.task c.if-i-pairs.false new c.with-with.result c.with-with.ensures.known c.make-2.new.out c.in-Some.yes y in (
      search rules,
      same_task _ _ c.in_ok-yes.ensures.text ps _ k _
          (task_no a ps c.args.i k lent c.requires.task c.if-i-pairs.false new _ (omega (arith, behind, ap length (take_rest c.make-2.new.out c.in-Some.yes.words), length-drop c.in-Some.yes.words c.make-2.new.out))),
    )

pub returns-in_err-no-clause-made : goal.returns-in_err-no-clause-made
returns-in_err-no-clause-made t c =
    let a = plan c.args.evaluator.now in
    let ps = c.args.pairs.now in
    let k = c.args.known.now in
    let lent = length c.args.out.now in
    let new = sym c.if-knows.ensures.value in
    failed _ _ _ _ _ _
    (turn_crowded_n a ps c.args.i k lent c.requires.task c.if-i-pairs.false new c.with-with.result c.with-with.ensures.known c.make-3.new.out c.make-3.new.out c.in_err-no.field-0.0
    (same_made _ _ c.in_ok-yes.ensures.text _ _ c.make-3.new.out (Err c.in_err-no.field-0.0) c.in_err-no.ensures.made))
    c.from_residual-in_err-no.ensures.1

pub returns-in_default-2-clause-made : goal.returns-in_default-2-clause-made
returns-in_default-2-clause-made t c =
    let a = plan c.args.evaluator.now in
    let ps = c.args.pairs.now in
    let k = c.args.known.now in
    let lent = length c.args.out.now in
    let new = sym c.if-knows.ensures.value in
    let y : MadeOf a (wants_of (drop (c.args.i + 1) ps)) (known_of c.with-with.result) c.make-2.new.out (Ok (Some c.in-Some.yes)) = subst (λ m. MadeOf a (wants_of (drop (c.args.i + 1) ps)) (known_of c.with-with.result) c.make-2.new.out (Ok m)) c.in-Some.is c.in_ok-yes.ensures.made in
    turn_over_n a ps c.args.i k lent c.requires.task c.if-i-pairs.false new c.with-with.result c.with-with.ensures.known c.make-2.new.out c.make-3.new.out c.make-3.new.out c.in-Some.yes y
    (subst (λ m. MadeOf a (wants_of (drop (c.args.i + 1) ps)) (known_of k) c.make-3.new.out (Ok m)) c.in_default-2.is
    (same_made _ _ c.in_ok-yes.ensures.text _ _ c.make-3.new.out (Ok c.in_ok-no.field-0) c.in_ok-no.ensures.made))

pub join-requires-clause-within : goal.join-requires-clause-within
join-requires-clause-within t c =
    let a = plan c.args.evaluator.now in
    let ps = c.args.pairs.now in
    let k = c.args.known.now in
    let lent = length c.args.out.now in
    let new = sym c.if-knows.ensures.value in
    let y : MadeOf a (wants_of (drop (c.args.i + 1) ps)) (known_of c.with-with.result) c.make-2.new.out (Ok (Some c.in-Some.yes)) = subst (λ m. MadeOf a (wants_of (drop (c.args.i + 1) ps)) (known_of c.with-with.result) c.make-2.new.out (Ok m)) c.in-Some.is c.in_ok-yes.ensures.made in
    let behind = fits_behind a ps c.args.i k lent c.requires.task c.if-i-pairs.false new c.with-with.result c.with-with.ensures.known c.make-2.new.out c.in-Some.yes y in
    let rest : length c.make-3.new.out ≡ length c.make-2.new.out - c.in-Some.yes.words = omega (arith, ap length (take_rest c.make-2.new.out c.in-Some.yes.words), length-drop c.in-Some.yes.words c.make-2.new.out) in
    let n : MadeOf a (wants_of (drop (c.args.i + 1) ps)) (known_of k) c.make-3.new.out (Ok (Some c.in-Some-2.no)) = subst (λ m. MadeOf a (wants_of (drop (c.args.i + 1) ps)) (known_of k) c.make-3.new.out (Ok m)) c.in-Some-2.is (same_made _ _ c.in_ok-yes.ensures.text _ _ c.make-3.new.out (Ok c.in_ok-no.field-0) c.in_ok-no.ensures.made) in
    omega (arith, behind, n.2, whole_length c.in-Some.yes.words c.make-2.new.out c.make-3.new.out (omega (arith, behind)) rest)

pub returns-clause-made : goal.returns-clause-made
returns-clause-made t c =
    let a = plan c.args.evaluator.now in
    let ps = c.args.pairs.now in
    let k = c.args.known.now in
    let lent = length c.args.out.now in
    let new = sym c.if-knows.ensures.value in
    let y : MadeOf a (wants_of (drop (c.args.i + 1) ps)) (known_of c.with-with.result) c.make-2.new.out (Ok (Some c.in-Some.yes)) = subst (λ m. MadeOf a (wants_of (drop (c.args.i + 1) ps)) (known_of c.with-with.result) c.make-2.new.out (Ok m)) c.in-Some.is c.in_ok-yes.ensures.made in
    let behind = fits_behind a ps c.args.i k lent c.requires.task c.if-i-pairs.false new c.with-with.result c.with-with.ensures.known c.make-2.new.out c.in-Some.yes y in
    let rest : length c.make-3.new.out ≡ length c.make-2.new.out - c.in-Some.yes.words = omega (arith, ap length (take_rest c.make-2.new.out c.in-Some.yes.words), length-drop c.in-Some.yes.words c.make-2.new.out) in
    let n : MadeOf a (wants_of (drop (c.args.i + 1) ps)) (known_of k) c.make-3.new.out (Ok (Some c.in-Some-2.no)) = subst (λ m. MadeOf a (wants_of (drop (c.args.i + 1) ps)) (known_of k) c.make-3.new.out (Ok m)) c.in-Some-2.is (same_made _ _ c.in_ok-yes.ensures.text _ _ c.make-3.new.out (Ok c.in_ok-no.field-0) c.in_ok-no.ensures.made) in
    let inside : c.in-Some-2.no.words ≤ length c.make-3.new.out = omega (arith, behind, n.2, rest) in
    let front : c.in-Some.yes.words ≤ length c.make-2.new.out = omega (arith, behind) in
    turn_joined a ps c.args.i k lent c.requires.task c.if-i-pairs.false new c.with-with.result c.with-with.ensures.known c.make-2.new.out c.make-3.new.out c.join.new.out c.in-Some.yes c.in-Some-2.no c.join.result y n
    (c.join.ensures.joined _ _
    (front_stays c.in-Some.yes.words c.in-Some-2.no.words c.make-2.new.out c.make-3.new.out front inside ∙ y.3.front)
    (back_is c.in-Some.yes.words c.in-Some-2.no.words c.make-2.new.out c.make-3.new.out front inside ∙ n.3.front)
    y.3.count n.3.count y.3.good n.3.good)
