use Rattle.wire.proofs.Boards.{bare_board}
use Rattle.wire.proofs.board.Board.new.Goals as goal

pub returns : goal.returns
returns c = record { value = bare_board }
