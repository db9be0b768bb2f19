use Rattle.std.proofs.Common.{◌-◌, length}
use Rattle.maker.proofs.making.+make.Given as goal

abbrev pub decreases-make : goal.decreases-make
decreases-make l = length l.pairs.now - l.i
