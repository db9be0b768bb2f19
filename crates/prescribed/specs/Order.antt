-- Lists in rising order, each element once, and the orders that are used.
use Rattle.std.specs.Prelude.{ℕ, Bool, true, false, cond, not, ◌&&◌, ◌||◌, List, [], ◌∷◌, ◌==◌, nat_lt}
use Rattle.packet.specs.Table.{Want, Setting}

-- an element at its place in a rising list, unless it is there
unfoldable pub insert : {A : Type 0} → (A → A → Bool) → A → List A → List A
insert less x [] = x ∷ []
insert less x (y ∷ ys) = cond (less x y) (x ∷ (y ∷ ys)) (cond (less y x) (y ∷ insert less x ys) (y ∷ ys))

unfoldable pub rising : {A : Type 0} → (A → A → Bool) → List A → List A
rising less [] = []
rising less (x ∷ xs) = insert less x (rising less xs)

-- pairs of a field and a value: fields first
abbrev pub less_pair : ℕ → ℕ → ℕ → ℕ → Bool
less_pair f x g y = nat_lt f g || (f == g && nat_lt x y)

abbrev pub less_want : Want → Want → Bool
less_want v w = less_pair v.at v.value w.at w.value

abbrev pub less_setting : Setting → Setting → Bool
less_setting s t = less_pair s.at s.value t.at t.value

-- lists of settings: the first one first; a list comes before one that goes on behind it
unfoldable pub less_out : List Setting → List Setting → Bool
less_out [] [] = false
less_out [] (t ∷ ts) = true
less_out (s ∷ ss) [] = false
less_out (s ∷ ss) (t ∷ ts) = less_setting s t || (not (less_setting t s) && less_out ss ts)
