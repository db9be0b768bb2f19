use Rattle.prescribed.proofs.Sizes.{product_counts}
use Rattle.prescribed.proofs.product_counts.Goals as goal

pub returns : goal.returns
returns c = record { counts = product_counts }
