use Rattle.std.proofs.Common.{[], sym, arith}
use Rattle.octets.specs.Readers.{rest}
use Rattle.text.specs.Texts.{drafted}
use Rattle.text.proofs.Reading.{nodes_grow}
use Rattle.text.proofs.Sound.{is_finished}
use Rattle.text.proofs.format.reads.read_nodes.Goals as goal

-- at least one node was read, so the draft is not empty
pub unwrap-requires : goal.unwrap-requires
unwrap-requires c =
    let grown = nodes_grow c.in-Ok.count [] (rest c.word.new.self) (drafted c.in_ok-draft.draft) (rest c.nodes.new.c) (sym c.in_ok-draft.ensures.value) in
    is_finished _ _ c.finish.ensures.cases (omega (arith, grown.0))
