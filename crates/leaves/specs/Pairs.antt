-- The pairs of the code as wants.
--   wants_of ps     the wants that a list of pairs stands for
--   pairs_in s      those of a set of pairs
--   pair_cmp p q    how pairs are ordered: by their fields, and then by their values
--   Fits n r       r is n, or is none where n is above 65,536
use Rattle.std.specs.Prelude.{◌≡◌, ℕ, ◌<◌, ◌≤◌, List, map, vec_items, Option, MatchOption}
use Rattle.std.specs.declared.cmp.Ordering.{Ordering}
use Rattle.std.specs.Ordering.{nat_cmp, ordering_then}
use Rattle.packet.specs.Table.{Want}
use Rattle.packet.specs.Pairs.{want_of}
use Rattle.packet.specs.declared.pair.Pair.{Pair}
use Rattle.leaves.specs.declared.pairs.Pairs.{Pairs}

abbrev pub wants_of : List Pair → List Want
wants_of ps = map want_of ps

abbrev pub pairs_in : Pairs → List Want
pairs_in s = wants_of (vec_items s.items)

abbrev pub pair_cmp : Pair → Pair → Ordering
pair_cmp p q = ordering_then (nat_cmp p.field q.field) (nat_cmp p.value q.value)

abbrev pub Fits : ℕ → Option ℕ → Type 0
Fits n r = MatchOption r (65536 < n) (λ m. (m ≡ n) × (n ≤ 65536))
