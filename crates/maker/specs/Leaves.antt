-- The words of pairs, be they wants or settings.
--   pair_words p     a field and a value
--   pairs_words ps   pairs with their number in front
use Rattle.std.specs.Prelude.{ℕ, List, [], ◌∷◌, length}
use Rattle.std.specs.List.{flat_map}
use Rattle.packet.specs.declared.pair.Pair.{Pair}

abbrev pub pair_words : Pair → List ℕ
pair_words p = p.field ∷ (p.value ∷ [])

abbrev pub pairs_words : List Pair → List ℕ
pairs_words ps = length ps ∷ flat_map pair_words ps
