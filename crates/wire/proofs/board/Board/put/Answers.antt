use Rattle.std.proofs.Common.{rules, set, ap, ◌∙◌}
use Rattle.wire.specs.Wires.{wires_of}
use Rattle.wire.proofs.Boards.{put_board}
use Rattle.wire.proofs.board.Board.put.Goals as goal

pub returns : goal.returns
returns c =
    let ws = c.args.self.now.wires in
    record {
      after = ap (λ r. wires_of (record { wires = set ws c.args.i r })) c.hang.ensures.after
          ∙ put_board ws c.args.i c.args.p c.args.wire (search rules) c.hang.ensures.there;
    }
