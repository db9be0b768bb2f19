-- What is found in a memo and kept in it.
--   Tells p a b row      the row is that of the packet p, and tells b of node a
--   Keeps before e after   some of the first entries are left, perhaps with e behind them
--   Blank n kept         n nodes of which nothing is kept
use Rattle.std.specs.Prelude.{◌≡◌, ℕ, Bool, false, List, [], ◌∷◌, ◌++◌, length, take, vec_items, slice_index_or}
use Rattle.std.specs.List.{All}
use Rattle.packet.specs.Packet.{Packet}
use Rattle.meaning.specs.declared.memo.Row.{Row}
use Rattle.meaning.specs.declared.memo.Entry.{Entry}
use Rattle.meaning.specs.declared.memo.Kept.{Kept}

abbrev pub Tells : Packet → ℕ → Bool → Row → Type 0
Tells p a b row = (row.packet.fields ≡ p) × (slice_index_or row.tests a false ≡ b)

abbrev pub Keeps : List Entry → Entry → List Entry → Type 0
Keeps before e after = (n m : ℕ) × (after ≡ take n before ++ take m (e ∷ []))

abbrev pub Blank : ℕ → List Kept → Type 0
Blank n kept = (length kept ≡ n) × All (λ k. vec_items k.entries ≡ []) kept
