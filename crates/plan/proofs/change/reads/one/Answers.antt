use Rattle.plan.proofs.Placing.{granted}
use Rattle.plan.proofs.Changing.{text_put}
use Rattle.plan.proofs.change.reads.one.Goals as goal

pub returns : goal.returns
returns c =
    record { value = text_put _ _ _ _ _ _ _ c.put.result c.in_ok-switch.ensures (granted _ c.in_ok-claim.ensures.value) c.in_ok-text.ensures.value c.put.ensures.value }
