use Rattle.std.proofs.Common.{Ok, Err, refl, ap, ◌∙◌, ⊎_elim, lit≤, rules}
use Rattle.packet.specs.Packet.{once}
use Rattle.packet.specs.Policy.{each, some}
use Rattle.text.specs.Trees.{as_policy, tree_of}
use Rattle.meaning.proofs.Answering.{answer_of_lem, handed_on, and_first, and_second, and_joined, and_full, then_first, then_each, each_few, each_fault, each_more, each_full}
use Rattle.meaning.proofs.Telling.{a_test_lem, test_keeps}
use Rattle.meaning.proofs.evaluator.Evaluator.+give.Goals as goal

pub give_and-returns-in_err-all-clause-answer : goal.give_and-returns-in_err-all-clause-answer
give_and-returns-in_err-all-clause-answer t c =
    answer_of_lem _ _ _ c.from_residual.result c.requires.both (handed_on _ _ _ _ (and_first _ _ _ _ c.in_err-all.ensures.answer) c.from_residual.ensures.1)

pub give_and-returns-in_err-more-clause-answer : goal.give_and-returns-in_err-more-clause-answer
give_and-returns-in_err-more-clause-answer t c =
    answer_of_lem _ _ _ c.from_residual-in_err-more.result c.requires.both
    (handed_on _ _ _ _ (and_second _ _ _ _ (rw c.give.ensures.text at c.in_err-more.ensures.answer)) c.from_residual-in_err-more.ensures.1)

pub give_and-returns-in_err-join-clause-answer : goal.give_and-returns-in_err-join-clause-answer
give_and-returns-in_err-join-clause-answer t c =
    answer_of_lem _ _ _ c.from_residual-in_err-join.result c.requires.both
    (handed_on _ _ _ _
    (and_full _ _ _ c.in_ok-all.all c.in_ok-more.more c.in_ok-all.ensures.answer (rw c.give.ensures.text at c.in_ok-more.ensures.answer) c.in_err-join.field-0.0 (lit≤ tt) c.in_err-join.ensures.cases)
    c.from_residual-in_err-join.ensures.1)

pub give_and-remember-requires-clause-right : goal.give_and-remember-requires-clause-right
give_and-remember-requires-clause-right t c =
    rw (c.give-2.ensures.text ∙ c.give.ensures.text)
    (answer_of_lem _ _ _ (Ok c.join.new.self) c.requires.both
    (and_joined _ _ _ c.in_ok-all.all c.in_ok-more.more c.in_ok-all.ensures.answer (rw c.give.ensures.text at c.in_ok-more.ensures.answer) c.join.new.self (lit≤ tt) c.in_ok-join.ensures.cases))

pub give_and-returns-clause-answer : goal.give_and-returns-clause-answer
give_and-returns-clause-answer t c =
    answer_of_lem _ _ _ (Ok c.join.new.self) c.requires.both
    (and_joined _ _ _ c.in_ok-all.all c.in_ok-more.more c.in_ok-all.ensures.answer (rw c.give.ensures.text at c.in_ok-more.ensures.answer) c.join.new.self (lit≤ tt) c.in_ok-join.ensures.cases)

pub give_each-loop-q-init : goal.give_each-loop-q-init
unfolding each some once
give_each-loop-q-init t c = (refl, c.none-all.ensures.value, refl)

pub give_each-returns-in_err-more-clause-answer : goal.give_each-returns-in_err-more-clause-answer
give_each-returns-in_err-more-clause-answer t c =
    handed_on _ _ _ _ (each_fault _ c.args.packets.now _ _ c.loop-q-test.true _ (rw c.loop-q.invariant.0 at c.in_err-more.ensures.answer)) c.from_residual.ensures.1

pub give_each-returns-in_err-join-clause-answer : goal.give_each-returns-in_err-join-clause-answer
give_each-returns-in_err-join-clause-answer t c =
    handed_on _ _ _ _
    (each_full _ c.args.packets.now _ _ c.loop-q-test.true c.loop-q.all c.in_ok-more.more c.loop-q.invariant.1 (rw c.loop-q.invariant.0 at c.in_ok-more.ensures.answer.1) c.in_err-join.field-0.0
    (lit≤ tt) c.in_err-join.ensures.cases)
    c.from_residual-in_err-join.ensures.1

pub give_each-loop-q-preserved : goal.give_each-loop-q-preserved
give_each-loop-q-preserved t c =
    let inv = c.loop-q.invariant in
    let more = rw inv.0 at c.in_ok-more.ensures.answer in (
      c.give.ensures.text ∙ inv.0,
      each_more _ c.args.packets.now _ _ c.loop-q-test.true c.loop-q.all c.in_ok-more.more inv.1 more.1 c.join.new.self c.in_ok-join.ensures.cases,
      each_few _ c.args.packets.now _ _ c.loop-q-test.true inv.2 more.0,
    )

pub give_then-returns-in_err-some-clause-answer : goal.give_then-returns-in_err-some-clause-answer
give_then-returns-in_err-some-clause-answer t c =
    answer_of_lem _ _ _ c.from_residual.result c.requires.both (handed_on _ _ _ _ (then_first _ _ _ _ c.in_err-some.ensures.answer) c.from_residual.ensures.1)

pub give_then-returns-in_err-all-clause-answer : goal.give_then-returns-in_err-all-clause-answer
give_then-returns-in_err-all-clause-answer t c =
    answer_of_lem _ _ _ c.from_residual-in_err-all.result c.requires.both
    (handed_on _ _ _ _
    (then_each _ _ _ c.in_ok-some.some _ (Err c.in_err-all.field-0.0) c.as_slice.ensures.value c.in_ok-some.ensures.answer (rw c.give.ensures.text at c.in_err-all.ensures.answer))
    c.from_residual-in_err-all.ensures.1)

pub give_then-remember-requires-clause-right : goal.give_then-remember-requires-clause-right
give_then-remember-requires-clause-right t c =
    rw (c.give_each.ensures.text ∙ c.give.ensures.text)
    (answer_of_lem _ _ _ (Ok c.in_ok-all.all) c.requires.both
    (then_each _ _ _ c.in_ok-some.some _ (Ok c.in_ok-all.all) c.as_slice.ensures.value c.in_ok-some.ensures.answer (rw c.give.ensures.text at c.in_ok-all.ensures.answer)))

pub give_then-returns-clause-answer : goal.give_then-returns-clause-answer
give_then-returns-clause-answer t c =
    answer_of_lem _ _ _ (Ok c.in_ok-all.all) c.requires.both
    (then_each _ _ _ c.in_ok-some.some _ (Ok c.in_ok-all.all) c.as_slice.ensures.value c.in_ok-some.ensures.answer (rw c.give.ensures.text at c.in_ok-all.ensures.answer))

pub give-give_keep-requires-clause-is : goal.give-give_keep-requires-clause-is
unfolding tree_of
give-give_keep-requires-clause-is t c = ap as_policy c.in-Keep.ensures.stands.tree

pub give-returns-in-Put-clause-answer : goal.give-returns-in-Put-clause-answer
unfolding tree_of
give-returns-in-Put-clause-answer t c = answer_of_lem _ _ _ c.give_put.result (ap as_policy c.in-Put.ensures.stands.tree) c.give_put.ensures.answer

pub give-give_and-requires : goal.give-give_and-requires
unfolding tree_of
give-give_and-requires t c =
    let s = c.in-And.ensures.stands in
    (search rules, (c.requires.within, (s.earlier.0, (s.earlier.1, ap as_policy s.tree))))

pub give-give_then-requires : goal.give-give_then-requires
unfolding tree_of
give-give_then-requires t c =
    let s = c.in-Then.ensures.stands in
    (search rules, (c.requires.within, (s.earlier.0, (s.earlier.1, ap as_policy s.tree))))

pub give-give_keep-requires-in-Always : goal.give-give_keep-requires-in-Always
give-give_keep-requires-in-Always t c =
    let is = ⊎_elim (ap a_test_lem) (⊎_elim (λ h. ap a_test_lem h.2) (⊎_elim (λ h. ap a_test_lem h.2) (⊎_elim (λ h. ap a_test_lem h.2) (λ h. ap a_test_lem h.1)))) c.in-Always.is in
    record { within = c.requires.within; test = c.requires.within; is = test_keeps _ _ c.node_at.result c.node_at.ensures.stands is }
