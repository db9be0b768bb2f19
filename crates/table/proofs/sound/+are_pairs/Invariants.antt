-- A pair less.
use Rattle.std.proofs.Common.{length}
use Rattle.table.proofs.sound.+are_pairs.Given as goal

abbrev pub decreases-are_pairs : goal.decreases-are_pairs
decreases-are_pairs l = length l.words.now
