-- Comparing two lists of numbers of one length finds the first place at which they differ.
use Rattle.std.proofs.Common.{◌≡◌, ℕ, suc, ◌<◌, [], ◌∷◌, length, Ordering, Less, Equal, Greater, sym, refl, subst, arith}
use Rattle.std.specs.Cmp.Lexicographic.{slice_cmp}
use Rattle.std.specs.Cmp.{ranks}
use Rattle.std.specs.Ordering.{MatchOrdering, nat_cmp, ordering_then}
use Rattle.packet.specs.Packet.{Packet, Before}

-- one field further on
next : (a b : ℕ) (p q : Packet) → a ≡ b → Before p q → Before (a ∷ p) (b ∷ q)
next a b p q e h = record { at = suc h.at; same = λ i. e i ∷ h.same i; less = h.less }

-- the answer where the fields behind the first have one
behind : (a b : ℕ) (p q : Packet) (o : Ordering) → a ≡ b → MatchOrdering o (Before p q) (p ≡ q) (Before q p) → MatchOrdering o (Before (a ∷ p) (b ∷ q)) (◌≡◌ {A = Packet} (a ∷ p) (b ∷ q)) (Before (b ∷ q) (a ∷ p))
behind a b p q Less e h = next a b p q e h
behind a b p q Equal e h = λ i. e i ∷ h i
behind a b p q Greater e h = next b a q p (sym e) h

-- the first fields decide, and else those behind them
first : (a b : ℕ) (p q : Packet) (r o : Ordering) → MatchOrdering r (a < b) (a ≡ b) (b < a) → MatchOrdering o (Before p q) (p ≡ q) (Before q p) →
    MatchOrdering (ordering_then r o) (Before (a ∷ p) (b ∷ q)) (◌≡◌ {A = Packet} (a ∷ p) (b ∷ q)) (Before (b ∷ q) (a ∷ p))
first a b p q Less o less h = record { at = 0; same = refl; less = less }
first a b p q Equal o same h = behind a b p q o same h
first a b p q Greater o less h = record { at = 0; same = refl; less = less }

ordered_by : (p q : Packet) → length p ≡ length q → MatchOrdering (slice_cmp nat_cmp p q) (Before p q) (p ≡ q) (Before q p)
ordered_by [] [] e = refl
ordered_by [] (b ∷ q) e = absurd (omega arith)
ordered_by (a ∷ p) [] e = absurd (omega arith)
ordered_by (a ∷ p) (b ∷ q) e = first a b p q (nat_cmp a b) (slice_cmp nat_cmp p q) (ranks a b) (ordered_by p q (omega arith))

pub ordered : (p q : Packet) (o : Ordering) → length p ≡ length q → o ≡ slice_cmp nat_cmp p q → MatchOrdering o (Before p q) (p ≡ q) (Before q p)
ordered p q o e is = subst (λ k. MatchOrdering k (Before p q) (p ≡ q) (Before q p)) (sym is) (ordered_by p q e)
