-- The chain says of each port whether it is passed.
use Rattle.std.proofs.Common.{rules}
use Rattle.std.proofs.iter.runs.Made.{chains}
use Rattle.switch.specs.Marking.{latest_of, mark_of}
use Rattle.switch.proofs.Marked.{told_by_all}
use Rattle.switch.proofs.marks.Marks.all_reached.Goals as goal

pub returns : goal.returns
returns c =
    record {
      value = λ wire drawn. told_by_all c.all.result c.args.cables.now wire (mark_of c.args.mark) (latest_of c.args.self) drawn (search (rules, chains)) (search (rules, chains));
    }
