-- No table has more words.
use Rattle.std.proofs.Common.{arith}
use Rattle.tablebytes.proofs.Sizes.{enough}
use Rattle.tablebytes.proofs.reads.measure.Goals as goal

pub returns-clause-few : goal.returns-clause-few
returns-clause-few c =
    let f = c.in_ok-table.ensures.0 in
    omega (arith, enough c.new-filler.result.bytes.now _ f.what f.read, f.place, c.count.ensures, c.new-filler.ensures.count)
