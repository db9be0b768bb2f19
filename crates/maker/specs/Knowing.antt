-- What is known, as wants.
use Rattle.std.specs.Prelude.{List}
use Rattle.packet.specs.Table.{Want}
use Rattle.leaves.specs.Pairs.{wants_of}
use Rattle.maker.specs.declared.known.Known.{Known}

abbrev pub known_of : Known → List Want
known_of k = wants_of k.wants.items
