use Rattle.std.proofs.Common.{◌≡◌, ◌*◌, ◌∙◌, rules}
use Rattle.std.specs.Option.{option_map_or}
use Rattle.maker.proofs.Handing.{room_by}
use Rattle.maker.proofs.maker.Maker.room.Goals as goal

pub returns : goal.returns
returns c =
    let told : c.map_or.result ≡ option_map_or (λ n. 290 * n) c.product-leaves.result 0 = search rules in
    record { value = told ∙ room_by c.args.self.now c.product-leaves.result c.product-leaves.ensures.cases }
