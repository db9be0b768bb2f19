-- A rule has few outs, so that there is a place for each copy.
use Rattle.std.proofs.Common.{◌≤◌, length, arith}
use Rattle.packet.specs.Copies.{listing}
use Rattle.table.specs.Views.{settings_in, outs_in}
use Rattle.table.proofs.Gathering.{gathers}
use Rattle.table.proofs.Reading.{outs_length}
use Rattle.table.proofs.matching.copies.Goals as goal

pub unwrap-requires : goal.unwrap-requires
unwrap-requires c =
    let os = c.args.outs in
    let few : length (outs_in os) ≤ 16 = omega (arith, outs_length os.left os.words.now, os.few) in
    gathers (listing c.loop-out.sent) (outs_in os) (outs_in c.loop-out.out-iterator) (outs_in c.next.new.self) (settings_in c.in-Some.out) c.args.p.fields
    c.copy.result.fields c.in-Some.ensures.steps c.copy.ensures.value c.loop-out.invariant.2 c.add.result c.add.new.self
    few c.add.ensures.cases
