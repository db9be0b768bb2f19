use Rattle.run.proofs.on_the_way_stands.Goals as goal
use Rattle.run.proofs.Between as between

pub returns : goal.returns
returns c = record { way = between.on_the_way }
