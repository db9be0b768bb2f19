use Rattle.std.proofs.Common.{◌≡◌, length}
use Rattle.text.specs.Texts.{nodes_of}
use Rattle.meaning.specs.Kept.{Says}
use Rattle.meaning.proofs.tests.row_of.Given as goal

abbrev pub invariant-loop-k : goal.invariant-loop-k
invariant-loop-k l = (length l.tests ≡ 512) × Says (nodes_of l.text) l.k l.p.fields l.tests
