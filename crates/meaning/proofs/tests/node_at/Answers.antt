use Rattle.std.proofs.Common.{get_or, ap}
use Rattle.text.specs.declared.node.Node.TheVariants.{Always}
use Rattle.meaning.proofs.Telling.{stands}
use Rattle.meaning.proofs.tests.node_at.Goals as goal

pub returns : goal.returns
returns c =
    record { stands = stands _ c.args.k _ c.args.text.now.sound c.requires.within (ap (λ l. get_or l c.args.k Always) c.nodes.ensures.value) }
