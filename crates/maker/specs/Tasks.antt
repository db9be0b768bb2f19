-- What the recursion is given.
use Rattle.std.specs.Prelude.{◌≡◌, ℕ, ◌+◌, ◌*◌, ◌<◌, ◌≤◌, false, List, length, drop, slice_index_or}
use Rattle.packet.specs.Policy.{Policy}
use Rattle.prescribed.specs.Table.{is_known, sample}
use Rattle.prescribed.specs.Fit.{leaves}
use Rattle.table.specs.Good.{Each, GoodWant}
use Rattle.packet.specs.declared.pair.Pair.{Pair}
use Rattle.maker.specs.declared.known.Known.{Known}
use Rattle.leaves.specs.Pairs.{wants_of}
use Rattle.maker.specs.Knowing.{known_of}
use Rattle.maker.specs.Making.{rule_room}

-- pair j, and its field
abbrev pub pair_at : List Pair → ℕ → Pair
pair_at ps j = slice_index_or ps j (record { field = 0; value = 0 })

abbrev pub field_at : List Pair → ℕ → ℕ
field_at ps j = (pair_at ps j).field

-- pairs come in rising order of fields, which are below 8
pub record Ordered (ps : List Pair) : Type 0 where
  pub low : (j : ℕ) → field_at ps j < 8
  pub rise : (j : ℕ) → j + 1 < length ps → field_at ps j ≤ field_at ps (j + 1)

-- so no more fields are known than lie before the next pair's, that one included if it is known
pub record Counted (ps : List Pair) (i : ℕ) (k : Known) : Type 0 where
  pub most : i < length ps → length (known_of k) ≤ field_at ps i + 1
  pub fewer : i < length ps → is_known (field_at ps i) (known_of k) ≡ false → length (known_of k) ≤ field_at ps i

-- the pairs from i on, where k is known, for the policy a, with room for so many words
pub record Task (a : Policy) (ps : List Pair) (i : ℕ) (k : Known) (words : ℕ) : Type 0 where
  pub order : Ordered ps
  pub count : Counted ps i k
  pub low : Each GoodWant (known_of k)
  pub sample : k.sample.fields ≡ sample a (known_of k)
  pub room : rule_room * leaves (wants_of (drop i ps)) (known_of k) ≤ words
