-- A number read digit by digit, kept below a limit.
use Rattle.std.proofs.Common.{◌≡◌, ℕ, ◌+◌, ◌-◌, ◌*◌, ◌<◌, ◌≤◌, min, true, false, cond, List, [], ◌∷◌, length, get_or, drop, Some, None, sym, refl, ap, ◌∙◌, arith}
use Rattle.std.proofs.lemmas.List.{drop_more, drop_all}
use Rattle.notation.specs.Numbers.{is_digit, goes_on, number_of, capped}

-- two numbers that are the same below the limit stay so
pub same_cap : (a b : ℕ) (bs : List ℕ) → min a 4294967295 ≡ min b 4294967295 → capped (goes_on a bs) ≡ capped (goes_on b bs)
unfolding goes_on
same_cap a b [] e = ap Some e
same_cap a b (d ∷ ds) e =
    elim (is_digit d) as (λ t. capped (cond t (goes_on (a * 10 + (d - 48)) ds) None) ≡ capped (cond t (goes_on (b * 10 + (d - 48)) ds) None))
    [ true ↦ same_cap (a * 10 + (d - 48)) (b * 10 + (d - 48)) ds (omega arith) | false ↦ refl ]

-- one digit more
pub digit_more : (n m : ℕ) (bs : List ℕ) (i : ℕ) → i < length bs → is_digit (get_or bs i 0) ≡ true → min (n * 10 + (get_or bs i 0 - 48)) 4294967295 ≡ m → capped (goes_on m (drop (i + 1) bs)) ≡ capped (goes_on n (drop i bs))
unfolding goes_on
digit_more n m bs i h d e =
    same_cap m (n * 10 + (get_or bs i 0 - 48)) (drop (i + 1) bs) (omega arith) ∙ sym (rw (drop_more bs i 0 h, d) refl)

-- no digit
pub digit_stop : (n : ℕ) (bs : List ℕ) (i : ℕ) → i < length bs → is_digit (get_or bs i 0) ≡ false → None ≡ capped (goes_on n (drop i bs))
unfolding goes_on
digit_stop n bs i h d = rw (drop_more bs i 0 h, d)

-- no byte left
pub digit_end : (n : ℕ) (bs : List ℕ) (i : ℕ) → length bs ≤ i → n ≤ 4294967295 → Some n ≡ capped (goes_on n (drop i bs))
unfolding goes_on
digit_end n bs i h l = rw (drop_all i bs h) (ap Some (omega arith))

-- a word with a byte is read from its first digit on
pub number_some : (bs : List ℕ) → 0 < length bs → capped (goes_on 0 bs) ≡ capped (number_of bs)
number_some [] h = absurd (omega arith)
number_some (b ∷ bs) h = refl
