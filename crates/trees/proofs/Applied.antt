-- What outs make of packets: one field set or kept.
use Rattle.std.proofs.Common.{◌≡◌, ℕ, zero, suc, ◌+◌, ◌<◌, ◌≤◌, [], ◌∷◌, length, get_or, take, set, Bool, true, false, not, eqb, Some, None, Option, MatchOption, sym, refl, ap, ◌∙◌, add-one, arith, eqb-true}
use Rattle.std.proofs.lemmas.List.{set_past, set-get_or}
use Rattle.std.specs.Option.{unwrap_or}
use Rattle.std.specs.Bool.{then_some}
use Rattle.packet.specs.Packet.{Packet, put, field}
use Rattle.trees.specs.Outs.{Out, applied}

pub applied_length : (o : Out) (p : Packet) → length (applied o p) ≡ length p
unfolding applied
applied_length [] p = refl
applied_length (v ∷ o) [] = refl
applied_length (v ∷ o) (x ∷ p) = ap suc (applied_length o p)

-- one field more is set
pub applied_set : (o : Out) (p : Packet) (f x : ℕ) → f < length o → applied (set o f (Some x)) p ≡ put f x (applied o p)
unfolding applied
applied_set [] p f x h = absurd (omega arith)
applied_set (v ∷ o) [] zero x h = refl
applied_set (v ∷ o) [] (suc f) x h = refl
applied_set (v ∷ o) (y ∷ p) zero x h = refl
applied_set (v ∷ o) (y ∷ p) (suc f) x h = ap (λ l. unwrap_or v y ∷ l) (applied_set o p f x (omega arith))

pub put_past : (o : Out) (p : Packet) (f x : ℕ) → length p ≤ f → applied o p ≡ put f x (applied o p)
put_past o p f x h = sym (set_past (applied o p) f x (omega (arith, applied_length o p)))

-- a field is set otherwise, but its value becomes the same
pub applied_like : (o : Out) (p : Packet) (f : ℕ) (v : Option ℕ) → unwrap_or v (field f p) ≡ unwrap_or (get_or o f None) (field f p) →
    applied (set o f v) p ≡ applied o p
unfolding applied
applied_like [] p f v e = refl
applied_like (w ∷ o) [] zero v e = refl
applied_like (w ∷ o) [] (suc f) v e = refl
applied_like (w ∷ o) (y ∷ p) zero v e = ap (λ z. z ∷ applied o p) e
applied_like (w ∷ o) (y ∷ p) (suc f) v e = ap (λ l. unwrap_or w y ∷ l) (applied_like o p f v e)

-- the fields before the i-th were gone through
step : (o : Out) (p : Packet) (i : ℕ) →
    applied (take (suc i) o) p ≡ set (applied (take i o) p) i (unwrap_or (get_or o i None) (get_or (applied (take i o) p) i 0))
unfolding applied
step [] p zero = sym (set-get_or p 0 0)
step [] p (suc i) = sym (set-get_or p (suc i) 0)
step (v ∷ o) [] zero = refl
step (v ∷ o) [] (suc i) = refl
step (v ∷ o) (y ∷ p) zero = refl
step (v ∷ o) (y ∷ p) (suc i) = ap (λ l. unwrap_or v y ∷ l) (step o p i)

pub applied_more : (o : Out) (p : Packet) (i : ℕ) →
    applied (take (i + 1) o) p ≡ set (applied (take i o) p) i (unwrap_or (get_or o i None) (get_or (applied (take i o) p) i 0))
applied_more o p i = rw add-one (step o p i)

-- where every field is kept
nones : ℕ → Out
nones zero = []
nones (suc n) = None ∷ nones n

all_kept : (n : ℕ) (p : Packet) → applied (nones n) p ≡ p
unfolding applied nones
all_kept zero p = refl
all_kept (suc n) [] = refl
all_kept (suc n) (x ∷ p) = ap (λ l. x ∷ l) (all_kept n p)

pub applied_same : (p : Packet) →
    applied (None ∷ (None ∷ (None ∷ (None ∷ (None ∷ (None ∷ (None ∷ (None ∷ [])))))))) p ≡ p
unfolding nones
applied_same p = all_kept 8 p

pub none_some : {x : ℕ} → None ≡ Some x → ⊥
none_some {x} q = let z : ◌≡◌ {A = ℕ} 0 1 = cc in omega arith

-- setting a field to the value that it has is left out
pub filtered : (v r : Option ℕ) (x : ℕ) {P : ℕ → Bool → Type 0} → MatchOption v (r ≡ None) (λ y. (b : Bool) × P y b × (r ≡ then_some b y)) →
    ((y : ℕ) (b : Bool) → P y b → b ≡ not (eqb y x)) → unwrap_or r x ≡ unwrap_or v x
filtered None r x m h = ap (λ o. unwrap_or o x) m
filtered (Some y) r x m h = ap (λ o. unwrap_or o x) (m.2 ∙ ap (λ b. then_some b y) (h y m.0 m.1)) ∙ by (eqb y x) refl
  where
    by : (b : Bool) → eqb y x ≡ b → unwrap_or (then_some (not b) y) x ≡ y
    by true e = sym (eqb-true y x e)
    by false e = refl
