-- What is known of a search at a stage.
use Rattle.std.specs.Prelude.{◌<◌, List, length, Option}
use Rattle.packet.specs.Packet.{IsPacket}
use Rattle.packet.specs.declared.packets.Packet as code
use Rattle.trees.specs.declared.node.Node.{Node}
use Rattle.trees.specs.declared.stage.Stage.{Stage}
use Rattle.trees.specs.Nodes.{tree_at}
use Rattle.trees.specs.Search.{Settled}

-- both trees are in the store
pub record There (ns : List Node) (at : Stage) : Type 0 where
  pub first : at.first < length ns
  pub second : at.second < length ns
  pub packet : IsPacket at.packet.fields

-- what the search finds there
abbrev pub SettledIn : List Node → Stage → Option code.Packet → Type 0
SettledIn ns at r = Settled (tree_at ns at.first) (tree_at ns at.second) at.field at.packet.fields r
