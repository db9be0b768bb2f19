-- Decimal numbers: one or more digits, and nothing else.
use Rattle.std.specs.Prelude.{ℕ, ◌+◌, ◌-◌, ◌*◌, min, Bool, cond, ◌&&◌, List, [], ◌∷◌, Some, None, Option, nat_le}

abbrev pub is_digit : ℕ → Bool
is_digit b = nat_le 48 b && nat_le b 57

-- the number that digits go on to write, behind those that write n
unfoldable pub goes_on : ℕ → List ℕ → Option ℕ
goes_on n [] = Some n
goes_on n (b ∷ bs) = cond (is_digit b) (goes_on (n * 10 + (b - 48)) bs) None

abbrev pub number_of : List ℕ → Option ℕ
number_of [] = None
number_of (b ∷ bs) = goes_on 0 (b ∷ bs)

-- a number that is too large for its type, as the largest of the type
abbrev pub capped : Option ℕ → Option ℕ
capped None = None
capped (Some n) = Some (min n 4294967295)
