use Rattle.std.proofs.Common.{sym, ◌∙◌}
use Rattle.switch.proofs.Holds.{taken_in}
use Rattle.switch.proofs.Switch.install.Goals as goal

pub returns : goal.returns
returns c =
    let more = c.in_ok-versions.ensures.cases in
    record { after = (more.within, taken_in c.args.version c.args.self _ _ c.if-version-self.false (λ tables. sym (c.knows.ensures.value tables) ∙ c.if-knows.false) more) }
