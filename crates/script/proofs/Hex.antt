-- What hexadecimal digits write, two by two, is what decoding them gives.
use Rattle.std.proofs.Common.{◌≡◌, ℕ, ◌+◌, ◌-◌, ◌*◌, ◌%◌, Bool, true, false, cond, ◌&&◌, eqb, leb, List, [], ◌∷◌, ◌++◌, length, Some, None, Option, Ok, Err, Result, sym, refl, ap, ◌∙◌, ⊎_elim, inl, inr, ◌⊎◌, arith, subst}
use Rattle.std.specs.Prelude.{IfOk, IfErr, IsErrAnd, MatchResult}
use Rattle.std.proofs.lemmas.List.{append-nil, append_assoc}
use Rattle.std.proofs.lemmas.Bool.{cases_Bool, and_parts, leb-true, eqb-true}
use Rattle.octets.specs.declared.fault.Fault.{Fault}
use Rattle.octets.specs.declared.fault.Fault.TheVariants.{Memory, Form}
use Rattle.hex.specs.declared.error.FromHexError.{FromHexError}
use Rattle.hex.specs.declared.error.FromHexError.TheVariants.{InvalidHexCharacter, OddLength, InvalidStringLength, OutOfMemory}
use Rattle.hex.specs.Hex.{hex_digit_value, pair_value, decode_pairs, decode_of, ◌>>=◌}
use Rattle.script.specs.Readers.{Gives, fault_of}
use Rattle.script.specs.Steps.{hex_digit, hex_byte, onward, hex_on, hex_of}

-- three tests of which one at most succeeds, in either order
swapped : (p q r : Bool) (x y z : Option ℕ) → (p ≡ true → r ≡ true → ⊥) → (p ≡ true → q ≡ true → ⊥) → (q ≡ true → r ≡ true → ⊥) →
    cond p x (cond q y (cond r z None)) ≡ cond r z (cond q y (cond p x None))
swapped true true r x y z a b d = absurd (b refl refl)
swapped true false true x y z a b d = absurd (a refl refl)
swapped true false false x y z a b d = refl
swapped false true true x y z a b d = absurd (d refl refl)
swapped false true false x y z a b d = refl
swapped false false true x y z a b d = refl
swapped false false false x y z a b d = refl

digit : (b : ℕ) → hex_digit b ≡ hex_digit_value b
digit b =
    swapped (leb 48 b && leb b 57) (leb 97 b && leb b 102) (leb 65 b && leb b 70) (Some (b - 48)) (Some (b - 87)) (Some (b - 55))
    (λ s t. omega (arith, leb-true b 57 (and_parts (leb 48 b) (leb b 57) s).1, leb-true 65 b (and_parts (leb 65 b) (leb b 70) t).0))
    (λ s t. omega (arith, leb-true b 57 (and_parts (leb 48 b) (leb b 57) s).1, leb-true 97 b (and_parts (leb 97 b) (leb b 102) t).0))
    (λ s t. omega (arith, leb-true 97 b (and_parts (leb 97 b) (leb b 102) s).0, leb-true b 70 (and_parts (leb 65 b) (leb b 70) t).1))

-- what was written behind xs, and what was decoded
abbrev pub Agree : List ℕ → Result (List ℕ) FromHexError → Option (List ℕ) → Type 0
Agree xs (Ok bs) o = o ≡ Some (xs ++ bs)
Agree xs (Err e) o = o ≡ None

behind : (xs : List ℕ) (x : ℕ) (r : Result (List ℕ) FromHexError) (o : Option (List ℕ)) → Agree (xs ++ x ∷ []) r o → Agree xs (r >>= (λ bs. Ok (x ∷ bs))) o
behind xs x (Ok bs) o h = h ∙ ap Some (append_assoc xs (x ∷ []) bs)
behind xs x (Err e) o h = h

pairs : (i : ℕ) (xs ds : List ℕ) → Agree xs (decode_pairs i ds) (hex_on xs ds)
unfolding decode_pairs hex_on
pairs i xs [] = ap Some (sym (append-nil xs))
pairs i xs (a ∷ []) = refl
pairs i xs (a ∷ (b ∷ ds)) = rw (digit a, digit b) (go (λ v. pairs (i + 2) (xs ++ v ∷ []) ds) (hex_digit_value a) (hex_digit_value b) refl refl)
  where
    go : ((v : ℕ) → Agree (xs ++ v ∷ []) (decode_pairs (i + 2) ds) (hex_on (xs ++ v ∷ []) ds)) → (x y : Option ℕ) → hex_digit_value a ≡ x → hex_digit_value b ≡ y →
        Agree xs (pair_value a b i >>= (λ v. decode_pairs (i + 2) ds >>= (λ bs. Ok (v ∷ bs)))) (onward (hex_byte (hex_digit_value a) (hex_digit_value b)) (λ v. hex_on (xs ++ v ∷ []) ds))
    go on None y ea eb = rw ea refl
    go on (Some x) None ea eb = rw (ea, eb) refl
    go on (Some x) (Some y) ea eb = rw (ea, eb) (behind xs (x * 16 + y) (decode_pairs (i + 2) ds) _ (on (x * 16 + y)))

odd : (xs ds : List ℕ) → length ds % 2 ≡ 1 → hex_on xs ds ≡ None
unfolding hex_on
odd xs [] h = absurd (omega (arith, h))
odd xs (a ∷ []) h = refl
odd xs (a ∷ (b ∷ ds)) h = go (λ x. odd (xs ++ x ∷ []) ds (omega (arith, h))) (hex_byte (hex_digit a) (hex_digit b))
  where
    go : ((x : ℕ) → hex_on (xs ++ x ∷ []) ds ≡ None) → (o : Option ℕ) → onward o (λ x. hex_on (xs ++ x ∷ []) ds) ≡ None
    go on None = refl
    go on (Some x) = on x

pub written : (ds : List ℕ) → Agree [] (decode_of ds) (hex_of ds)
written ds = ⊎_elim (λ t. rw t (odd [] ds (eqb-true (length ds % 2) 1 t))) (λ f. rw f (pairs 0 [] ds)) (cases_Bool (eqb (length ds % 2) 1))

either : (e : FromHexError) → (fault_of e ≡ Memory) ⊎ (fault_of e ≡ Form)
either OutOfMemory = inl refl
either (InvalidHexCharacter c i) = inr refl
either OddLength = inr refl
either InvalidStringLength = inr refl

-- the answer of a decoder, with its error as a fault
pub gives : {X : Type 0} (items : X → List ℕ) (ds : List ℕ) (r : Result X FromHexError) (m : Result X Fault) (Post : FromHexError → Fault → Type 0) →
    ((e : FromHexError) (f : Fault) → Post e f → f ≡ fault_of e) →
    IfOk r (λ x. decode_of ds ≡ Ok (items x)) → IfErr r (λ e. (e ≡ OutOfMemory) ⊎ (decode_of ds ≡ Err e)) →
    MatchResult r (λ x. m ≡ Ok x) (λ e. IsErrAnd m (Post e)) → Gives items m (hex_of ds)
gives items ds (Ok x) m Post is ok err maps =
    subst (λ n. Gives items n (hex_of ds)) (sym maps) (sym (subst (λ d. Agree [] d (hex_of ds)) ok (written ds)))
gives items ds (Err e) (Ok x) Post is ok err maps = absurd maps
gives {X} items ds (Err e) (Err f) Post is ok err maps = go err (either e)
  where
    go : (e ≡ OutOfMemory) ⊎ (decode_of ds ≡ Err e) → (fault_of e ≡ Memory) ⊎ (fault_of e ≡ Form) → (f ≡ Memory) ⊎ ((f ≡ Form) × (None ≡ hex_of ds))
    go (inl h) k = inl (is e f maps ∙ ap fault_of h)
    go (inr h) (inl k) = inl (is e f maps ∙ k)
    go (inr h) (inr k) = inr (is e f maps ∙ k, sym (subst (λ d. Agree [] d (hex_of ds)) h (written ds)))
