use Rattle.std.proofs.Common.{◌≡◌, ◌⊎◌, [], sym, ◌∙◌, subst}
use Rattle.octets.specs.declared.fault.Fault.TheVariants.{Memory}
use Rattle.octets.specs.Faults.{number}
use Rattle.octets.specs.Parse.{Bad}
use Rattle.octets.specs.Readers.{rest}
use Rattle.std.proofs.lemmas.Bool.{false≢true}
use Rattle.std.proofs.lemmas.Result.{err_from_is_err_and}
use Rattle.plan.specs.Changes.{text}
use Rattle.plan.specs.Views.{slots_of}
use Rattle.plan.proofs.Changing.{texts_more, texts_stop, texts_done}
use Rattle.plan.proofs.change.reads.texts.Goals as goal

pub returns-then-is_done : goal.returns-then-is_done
returns-then-is_done c = record { value = texts_done _ _ _ (c.is_done.ensures.0 c.if-is_done.true) ∙ c.loop-i.invariant }

pub returns-in_err-one : goal.returns-in_err-one
returns-in_err-one c =
    let some : rest c.loop-i.c ≡ [] → ⊥ = λ e. false≢true (sym c.if-is_done.false ∙ c.is_done.ensures.1 e) in
    let p = err_from_is_err_and c.from_residual.result c.from_residual.ensures.1 in
    rw p.1 record {
      value =
          subst (λ g. (p.0 ≡ Memory) ⊎ (Bad (number p.0) ≡ g)) c.loop-i.invariant
          (texts_stop (rest c.loop-i.c) some c.args.switches c.loop-i._i _ p.0 c.loop-i-test.true
          (subst (λ e. (e ≡ Memory) ⊎ (Bad (number e) ≡ text (slots_of c.loop-i.builder) (rest c.loop-i.c))) (sym p.2) c.in_err-one.ensures.value));
    }

pub loop-i-preserved : goal.loop-i-preserved
loop-i-preserved c =
    let some : rest c.loop-i.c ≡ [] → ⊥ = λ e. false≢true (sym c.if-is_done.false ∙ c.is_done.ensures.1 e) in
    texts_more (rest c.loop-i.c) some c.args.switches c.loop-i._i _ _ _ c.loop-i-test.true c.in_ok-one.ensures.value ∙ c.loop-i.invariant
