-- What the pairs of the code stand for, and how one is printed.
use Rattle.std.specs.Prelude.{ℕ, List, ◌++◌, codes, decimal}
use Rattle.packet.specs.Table as model
use Rattle.packet.specs.declared.pair.Pair.{Pair}

abbrev pub want_of : Pair → model.Want
want_of p = record { at = p.field; value = p.value }

abbrev pub setting_of : Pair → model.Setting
setting_of p = record { at = p.field; value = p.value }

abbrev pub pair_text : Pair → List ℕ
pair_text p = decimal p.field ++ (codes "=" ++ decimal p.value)
