-- The derived order of pairs and of outs decides the order of wants, of settings and of lists of settings.
use Rattle.std.proofs.Common.{◌≡◌, ℕ, zero, suc, ◌≤◌, Bool, true, false, cond, not, ◌&&◌, ◌||◌, List, [], ◌∷◌, map, length, take, Ordering, Less, Equal, Greater, refl, sym, ap, ◌∙◌, arith}
use Prim.Native.Nat.compare
use Rattle.std.specs.Cmp.{IsTotalOrder}
use Rattle.std.specs.Cmp.Lexicographic.{slice_cmp}
use Rattle.std.specs.List.{AllWithin}
use Rattle.std.specs.Ordering.{is_lt, nat_cmp, ordering_then, ordering_reverse}
use Rattle.std.proofs.lemmas.Bool.{cond-true, lt-ltb}
use Rattle.std.proofs.lemmas.Cmp.{then_total, on_total, lists_total, nat_cmp_total}
use Rattle.packet.specs.declared.pair.Pair.{Pair}
use Rattle.packet.specs.Pairs.{want_of, setting_of}
use Rattle.prescribed.specs.Order.{less_want, less_setting, less_out}
use Rattle.leaves.specs.declared.outs.Out.{Out}
use Rattle.leaves.specs.Outs.{settings_of, out_cmp}
use Rattle.leaves.specs.Pairs.{pair_cmp}

pub pair_total : IsTotalOrder pair_cmp
pair_total = then_total (on_total (λ p. p.field) nat_cmp_total) (on_total (λ p. p.value) nat_cmp_total)

by_tests : (a b c d : Bool) → is_lt (ordering_then (cond a Less (cond b Equal Greater)) (cond c Less (cond d Equal Greater))) ≡ (a || (b && c))
by_tests true b c d = refl
by_tests false true true d = refl
by_tests false true false true = refl
by_tests false true false false = refl
by_tests false false c d = refl

pub pair_less : (p q : Pair) → is_lt (pair_cmp p q) ≡ less_want (want_of p) (want_of q)
pair_less p q = by_tests _ _ _ _

setting_less : (p q : Pair) → is_lt (pair_cmp p q) ≡ less_setting (setting_of p) (setting_of q)
setting_less p q = by_tests _ _ _ _

pub out_total : IsTotalOrder out_cmp
out_total = then_total (on_total (λ o. o.settings) (lists_total pair_total)) (on_total (λ o. o.count) nat_cmp_total)

-- zeros stand from place n on
abbrev Rest : ℕ → List Pair → Type 0
Rest n ps = AllWithin (λ p. p ≡ record { field = 0; value = 0 }) ps n (length ps)

-- zero comes before a larger number
zero_less : (n : ℕ) → nat_cmp 0 (suc n) ≡ Less
zero_less n = cond-true _ _ _ (lt-ltb 0 (suc n) (omega arith))

-- no number comes before zero
zero_least : (n : ℕ) → ordering_then (nat_cmp 0 n) Less ≡ Less
zero_least zero = refl
zero_least (suc n) = ap (λ o. ordering_then o Less) (zero_less n)

-- nor does what two such answers give together
both_least : (o more : Ordering) → ordering_then o Less ≡ Less → ordering_then more Less ≡ Less → ordering_then (ordering_then o more) Less ≡ Less
both_least Less more p q = p
both_least Equal more p q = q
both_least Greater more p q = p

-- no list of that length comes before zeros
zeros_least : (ps qs : List Pair) → length ps ≡ length qs → Rest 0 ps → ordering_then (slice_cmp pair_cmp ps qs) Less ≡ Less
zeros_least [] [] e z = refl
zeros_least [] (q ∷ qs) e z = refl
zeros_least (p ∷ ps) [] e z = absurd (omega arith)
zeros_least (p ∷ ps) (q ∷ qs) e z =
    let least = both_least (nat_cmp 0 q.field) (nat_cmp 0 q.value) (zero_least q.field) (zero_least q.value) in
    both_least (pair_cmp p q) (slice_cmp pair_cmp ps qs) (ap (λ r. ordering_then (pair_cmp r q) Less) (z 0 p (omega arith) (omega arith)) ∙ least)
    (zeros_least ps qs (omega arith) (λ k d low high. z (suc k) d (omega arith) (omega arith)))

-- and zeros come behind none
zeros_last : (ps qs : List Pair) → length ps ≡ length qs → Rest 0 qs → ordering_then (ordering_reverse (slice_cmp pair_cmp ps qs)) Less ≡ Less
zeros_last ps qs e z = ap (λ o. ordering_then o Less) (sym ((lists_total pair_total).antisymm qs ps)) ∙ zeros_least qs ps (sym e) z

-- what is not less stays so where what decides next is not less
not_less : (o more : Ordering) → ordering_then (ordering_reverse o) Less ≡ Less → is_lt more ≡ false → is_lt (ordering_then o more) ≡ false
not_less Less more p q = cc
not_less Equal more p q = q
not_less Greater more p q = refl

-- the first pair decides, or what is behind it
first : (o rest more : Ordering) (a b c : Bool) → is_lt o ≡ a → is_lt (ordering_reverse o) ≡ b → is_lt (ordering_then rest more) ≡ c → is_lt (ordering_then (ordering_then o rest) more) ≡ (a || (not b && c))
first Less rest more a b c p q r = λ i. p i || (not (q i) && r i)
first Equal rest more a b c p q r = λ i. p i || (not (q i) && r i)
first Greater rest more a b c p q r = λ i. p i || (not (q i) && r i)

-- with zeros behind both, two lists and their counts have the order of what stands in front
fronts_less : (a b : ℕ) (ps qs : List Pair) → a ≤ length ps → b ≤ length qs → length ps ≡ length qs → Rest a ps → Rest b qs →
    is_lt (ordering_then (slice_cmp pair_cmp ps qs) (nat_cmp a b)) ≡ less_out (map setting_of (take a ps)) (map setting_of (take b qs))
unfolding less_out
fronts_less zero zero ps qs la lb e y z = not_less _ _ (zeros_last ps qs e z) refl
fronts_less (suc a) zero [] qs la lb e y z = absurd (omega arith)
fronts_less (suc a) zero (p ∷ ps) qs la lb e y z = not_less _ _ (zeros_last (p ∷ ps) qs e z) (ap is_lt (nat_cmp_total.antisymm (suc a) 0 ∙ ap ordering_reverse (zero_less a)))
fronts_less zero (suc b) ps [] la lb e y z = absurd (omega arith)
fronts_less zero (suc b) ps (q ∷ qs) la lb e y z = ap is_lt (ap (ordering_then (slice_cmp pair_cmp ps (q ∷ qs))) (zero_less b) ∙ zeros_least ps (q ∷ qs) e y)
fronts_less (suc a) (suc b) [] qs la lb e y z = absurd (omega arith)
fronts_less (suc a) (suc b) (p ∷ ps) [] la lb e y z = absurd (omega arith)
fronts_less (suc a) (suc b) (p ∷ ps) (q ∷ qs) la lb e y z =
    simp compare.suc-suc (first (pair_cmp p q) (slice_cmp pair_cmp ps qs) (nat_cmp a b) _ _ _ (setting_less p q) (ap is_lt (sym (pair_total.antisymm q p)) ∙ setting_less q p)
    (fronts_less a b ps qs (omega arith) (omega arith) (omega arith) (λ k d low high. y (suc k) d (omega arith) (omega arith)) (λ k d low high. z (suc k) d (omega arith) (omega arith))))

pub out_less : (o u : Out) → is_lt (out_cmp o u) ≡ less_out (settings_of o) (settings_of u)
out_less o u =
    fronts_less o.count u.count o.settings u.settings (omega (arith, o.long, o.within)) (omega (arith, u.long, u.within)) (o.long ∙ sym u.long) o.rest u.rest
