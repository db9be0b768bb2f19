use Rattle.std.proofs.Common.{Some, ap, ◌∙◌, subst, inr}
use Rattle.notation.specs.declared.marks.Mark.TheVariants.{Newline}
use Rattle.notation.specs.Marks.{parts}
use Rattle.octets.specs.Faults.{number}
use Rattle.script.specs.Described.{layout_of}
use Rattle.script.specs.Scripts.{Headed, Refused, opened, opening, describing}
use Rattle.script.proofs.Headed.{first_more, first_net, first_stops, first_end, stopped}
use Rattle.script.proofs.header.reads.read.Goals as goal

pub loop-line-preserved : goal.loop-line-preserved
loop-line-preserved c =
    let next = c.in-Some.ensures.cases in
    ap (λ k. opening k (parts Newline c.next.new.self.left.now)) next.1
    ∙ first_more c.loop-line.lines.before _ _ _ next.2 (rw c.in-Ok-None.field-0-is at c.in-Ok-None.ensures.value)
    ∙ c.loop-line.invariant

pub returns-in-Ok-Some : goal.returns-in-Ok-Some
returns-in-Ok-Some c =
    let next = c.in-Some.ensures.cases in
    record {
      value =
          subst (Headed c.describe.result)
          (ap (λ k. describing k (opened (layout_of c.in-Ok-Some.description)) (parts Newline c.next.new.self.left.now)) next.1
          ∙ first_net c.loop-line.lines.before (layout_of c.in-Ok-Some.description) _ _ _ next.2 (rw c.in-Ok-Some.field-0-is at c.in-Ok-Some.ensures.value)
          ∙ c.loop-line.invariant)
          c.describe.ensures.value;
    }

pub returns-in-Err : goal.returns-in-Err
returns-in-Err c =
    let next = c.in-Some.ensures.cases in
    record {
      value =
          stopped c.refused.result c.in-Err.fault c.in-Some.line _ _ c.refused.ensures.value (inr c.in-Err.ensures.value)
          (λ e. ap (λ k. Refused (number c.in-Err.fault) (Some k)) next.0 ∙ first_stops c.loop-line.lines.before _ _ _ _ next.2 e ∙ c.loop-line.invariant);
    }

pub returns : goal.returns
returns c = record { value = first_end c.loop-line.lines.before _ c.in_default.ensures.cases ∙ c.loop-line.invariant }
