-- When a policy fits, and which fault it has where it doesn't.
use Rattle.std.specs.Prelude.{◌≡◌, ℕ, ◌+◌, ◌*◌, ◌<◌, ◌≤◌, Bool, false, cond, ◌||◌, List, [], ◌∷◌, ◌++◌, length, ◌==◌, nat_lt}
use Rattle.std.specs.List.{AllByRecursion}
use Rattle.packet.specs.Policy.{Policy, overfull}
use Rattle.packet.specs.Table.{Want}
use Rattle.prescribed.specs.Table.{tested_in, pairs_of, sample, is_known, table_from, whole_table, table_of}

-- one more than the number of values of the field f
unfoldable pub values_of : ℕ → List Want → ℕ
values_of f [] = 1
values_of f (w ∷ ws) = cond (w.at == f) (values_of f ws + 1) (values_of f ws)

abbrev pub product : List Want → ℕ
product ws =
    values_of 0 ws * (values_of 1 ws * (values_of 2 ws * (values_of 3 ws * (values_of 4 ws * (values_of 5 ws * (values_of 6 ws * values_of 7 ws))))))

-- every field that is tested is one of the eight
abbrev pub Fields : Policy → Type 0
Fields a = AllByRecursion (λ w. w.at < 8) (tested_in a)

-- the leaves of the recursion that makes a table
unfoldable pub leaves : List Want → List Want → ℕ
leaves [] known = 1
leaves (w ∷ ws) known = cond (is_known w.at known) (leaves ws known) (leaves ws (known ++ w ∷ []) + leaves ws known)

-- the product is the number of leaves, and no table has more rules than leaves
abbrev pub ProductCounts : Type 0
ProductCounts = (a : Policy) → Fields a → (leaves (pairs_of a) [] ≡ product (pairs_of a)) × (length (whole_table a) ≤ product (pairs_of a))

-- a leaf at which some policy has more than 16 copies of a packet that it is given
unfoldable pub crowded : Policy → List Want → List Want → Bool
crowded a [] known = overfull a (sample a known)
crowded a (w ∷ ws) known = cond (is_known w.at known) (crowded a ws known) (crowded a ws (known ++ w ∷ []) || crowded a ws known)

-- a table on the way with more than 8,192 rules
unfoldable pub long : Policy → List Want → List Want → Bool
long a [] known = false
long a (w ∷ ws) known =
    nat_lt 8192 (length (table_from a (w ∷ ws) known))
    || cond (is_known w.at known) (long a ws known) (long a ws (known ++ w ∷ []) || long a ws known)

-- the fault's number, or 0 where the policy fits
abbrev pub fault_of : Policy → ℕ
fault_of a =
    cond (nat_lt 65536 (product (pairs_of a))) 5
    (cond (crowded a (pairs_of a) []) 6
    (cond (long a (pairs_of a) [] || nat_lt 2048 (length (table_of a))) 7 0))
