-- The desk's order is the one that is answered, or it is another one.
use Rattle.std.proofs.Common.{rules}
use Rattle.desk.specs.Model.{desk_of}
use Rattle.desk.proofs.Awaited.{decides_awaits}
use Rattle.desk.proofs.Desk.awaits.Goals as goal

pub returns : goal.returns
returns c = record { test = decides_awaits (desk_of c.args.self) c.order.result c.args.answer _ c.order.ensures.gives (search rules) }
