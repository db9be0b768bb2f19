use Rattle.std.proofs.Common.{◌≡◌, replicate, IfOk, None, ap, ◌∙◌, subst}
use Rattle.octets.specs.Parse.{Read, kind}
use Rattle.octets.specs.Readers.{rest}
use Rattle.plan.specs.Changes as spec
use Rattle.plan.specs.Laws.{GoodFor}
use Rattle.plan.specs.Views.{plan_of, slots_of, texts_of}
use Rattle.plan.proofs.Sizes.{change_read, change_size}
use Rattle.plan.proofs.change.reads.read.Goals as goal

-- all texts were read
all_read : (c : goal.After-finish) → Read (slots_of c.texts.new.builder) (rest c.texts.new.c) ≡ spec.texts c.args.switches (replicate c.args.switches None) (rest c.kind.new.self)
all_read c = c.in_ok-texts.ensures.value ∙ ap (λ s. spec.texts c.args.switches s (rest c.kind.new.self)) c.in_ok-builder.ensures.made

pub returns-clause-value : goal.returns-clause-value
returns-clause-value c =
    let first : Read c.in_ok-kind.field-0 (rest c.kind.new.self) ≡ kind 66 c.args.bytes.now = c.in_ok-kind.ensures ∙ ap (kind 66) c.new-c.ensures in
    change_read texts_of c.finish.result c.args.switches c.in_ok-kind.field-0 c.args.bytes.now _ _ _ first (all_read c) c.finish.ensures.value

pub returns-clause-good : goal.returns-clause-good
returns-clause-good c = subst (λ k. IfOk c.finish.result (λ p. GoodFor k (plan_of p))) (change_size c.args.switches _ _ _ (all_read c)) c.finish.ensures.good
