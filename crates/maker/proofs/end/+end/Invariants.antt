use Rattle.std.proofs.Common.{length}
use Rattle.maker.proofs.end.+end.Given as goal

abbrev pub decreases-end : goal.decreases-end
decreases-end l = length l.words.now
