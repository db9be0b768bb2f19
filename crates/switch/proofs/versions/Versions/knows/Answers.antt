use Rattle.std.proofs.Common.{is_some, ap, ◌∙◌}
use Rattle.switch.specs.Holding.{held_in}
use Rattle.switch.proofs.Holds.{known_found}
use Rattle.switch.proofs.versions.Versions.knows.Goals as goal

pub returns : goal.returns
returns c = record { value = λ tables. c.is_some.ensures ∙ ap is_some c.find.ensures.value ∙ known_found c.args.version (held_in c.args.self.held) tables }
