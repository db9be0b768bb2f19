-- Bytes without a mark, and how what is written splits again into lines and words.
use Rattle.std.proofs.Common.{◌≡◌, ℕ, ◌+◌, ◌-◌, ◌*◌, ◌/◌, ◌%◌, ◌^◌, ◌<◌, ◌≤◌, Bool, true, false, cond, ◌&&◌, leb, List, [], ◌∷◌, ◌++◌, map, length, Some, None, decimal, filter, refl, ap, ◌∙◌, arith}
use Rattle.std.specs.List.{AllByRecursion}
use Rattle.std.proofs.lemmas.Fmt.{decimal_by_steps}
use Rattle.std.proofs.ByRecursion.{All-append, All-weaker}
use Rattle.std.proofs.lemmas.List.{append-nil, length-append}
use Rattle.std.proofs.lemmas.Bool.{and_parts, and_from, leb-true, le-leb, ne_eqb, or_from, cond-true}
use Rattle.notation.specs.declared.kind.Kind.{Kind}
use Rattle.notation.specs.declared.kind.Kind.TheVariants.{Always, Is, Both, Either, Not, Keep, Put, And, Then}
use Rattle.notation.specs.declared.marks.Mark.{Mark}
use Rattle.notation.specs.declared.marks.Mark.TheVariants.{Newline, Semicolon, Hash, Blank}
use Rattle.notation.specs.Kinds.{word_of}
use Rattle.notation.specs.Marks.{marks, before, onto, parts}
use Rattle.notation.specs.Numbers.{is_digit, goes_on}
use Rattle.notation.specs.Words.{Word, some, words_of}
use Rattle.notation.specs.Writing.{spaced}

abbrev pub Clear : Mark → List ℕ → Type 0
Clear m bs = AllByRecursion (λ b. marks m b ≡ false) bs

-- a first part that a mark ends, and a last one
pub parts_first : (m : Mark) (p : List ℕ) (b : ℕ) (rest : List ℕ) → Clear m p → marks m b ≡ true → parts m (p ++ b ∷ rest) ≡ p ∷ parts m rest
unfolding parts
parts_first m [] b rest h e = rw e
parts_first m (x ∷ p) b rest h e = rw h.0 (ap (onto x) (parts_first m p b rest h.1 e))

pub parts_last : (m : Mark) (p : List ℕ) → Clear m p → 0 < length p → parts m p ≡ p ∷ []
unfolding parts
parts_last m [] h l = absurd (omega arith)
parts_last m (x ∷ []) h l = rw h.0
parts_last m (x ∷ (y ∷ p)) h l = rw h.0 (ap (onto x) (parts_last m (y ∷ p) h.1 (omega arith)))

pub before_clear : (m : Mark) (p : List ℕ) → Clear m p → before m p ≡ p
unfolding before
before_clear m [] h = refl
before_clear m (x ∷ p) h = rw h.0 (ap (λ l. x ∷ l) (before_clear m p h.1))

-- digits and letters are no marks
abbrev pub Solid : ℕ → Type 0
Solid b = (48 ≤ b) × (b ≡ 59 → ⊥)

pub solid_clear : (m : Mark) (bs : List ℕ) → AllByRecursion Solid bs → Clear m bs
solid_clear m bs = All-weaker Solid (λ b. marks m b ≡ false) (λ b h. at m b h) bs
  where
    at : (m : Mark) (b : ℕ) → Solid b → marks m b ≡ false
    at Newline b h = ne_eqb b 10 (λ e. omega arith)
    at Semicolon b h = ne_eqb b 59 h.1
    at Hash b h = ne_eqb b 35 (λ e. omega arith)
    at Blank b h = or_from _ _ (ne_eqb b 32 (λ e. omega arith)) (or_from _ _ (ne_eqb b 9 (λ e. omega arith)) (ne_eqb b 13 (λ e. omega arith)))

letter : (b : ℕ) → leb 97 b ≡ true → Solid b
letter b h = let k = leb-true 97 b h in (omega arith, λ e. omega arith)

letters : List ℕ → Bool
letters [] = true
letters (b ∷ bs) = leb 97 b && letters bs

letters_solid : (bs : List ℕ) → letters bs ≡ true → AllByRecursion Solid bs
unfolding letters
letters_solid [] h = tt
letters_solid (b ∷ bs) h = let p = and_parts (leb 97 b) (letters bs) h in (letter b p.0, letters_solid bs p.1)

pub word_solid : (k : Kind) → AllByRecursion Solid (word_of k) × (0 < length (word_of k))
unfolding letters
word_solid Always = (letters_solid (word_of Always) refl, omega arith)
word_solid Is = (letters_solid (word_of Is) refl, omega arith)
word_solid Both = (letters_solid (word_of Both) refl, omega arith)
word_solid Either = (letters_solid (word_of Either) refl, omega arith)
word_solid Not = (letters_solid (word_of Not) refl, omega arith)
word_solid Keep = (letters_solid (word_of Keep) refl, omega arith)
word_solid Put = (letters_solid (word_of Put) refl, omega arith)
word_solid And = (letters_solid (word_of And) refl, omega arith)
word_solid Then = (letters_solid (word_of Then) refl, omega arith)

-- one digit more behind a number
goes_push : (a m d : ℕ) (bs : List ℕ) → goes_on a bs ≡ Some m → is_digit d ≡ true → goes_on a (bs ++ d ∷ []) ≡ Some (m * 10 + (d - 48))
unfolding goes_on
goes_push a m d [] e h = let s : a ≡ m = cc in rw (h, s)
goes_push a m d (b ∷ bs) e h =
    let more = a * 10 + (b - 48) in
    elim (is_digit b) as (λ t. cond t (goes_on more bs) None ≡ Some m → cond t (goes_on more (bs ++ d ∷ [])) None ≡ Some (m * 10 + (d - 48)))
    [ true ↦ λ p. goes_push more m d bs p h | false ↦ λ p. let z : ◌≡◌ {A = ℕ} 0 1 = cc in absurd (omega arith) ] e

-- a number is written by one or more digits, which read as that number
pub record Decimal (n : ℕ) (ds : List ℕ) : Type 0 where
  pub solid : AllByRecursion Solid ds
  pub more : 0 < length ds
  pub reads : goes_on 0 ds ≡ Some n

digit : (n : ℕ) → n < 10 → is_digit (48 + n) ≡ true
digit n h = and_from (leb 48 (48 + n)) (leb (48 + n) 57) (le-leb 48 (48 + n) (omega arith)) (le-leb (48 + n) 57 (omega arith))

one_digit : (n : ℕ) → n < 10 → Decimal n ((48 + n) ∷ [])
unfolding goes_on
one_digit n h = record { solid = ((omega arith, λ e. omega arith), tt); more = omega arith; reads = rw (digit n h) (ap Some (omega arith)) }

more_digits : (n : ℕ) (ds : List ℕ) → 10 ≤ n → Decimal (n / 10) ds → Decimal n (ds ++ ((48 + n % 10) ∷ []))
more_digits n ds h p =
    let last : n % 10 < 10 = omega arith in
    record {
      solid = All-append Solid ds ((48 + n % 10) ∷ []) p.solid ((omega arith, λ e. omega arith), tt);
      more = simp length-append (omega arith);
      reads = goes_push 0 (n / 10) (48 + n % 10) ds p.reads (digit (n % 10) last) ∙ ap Some (omega arith);
    }

pub decimal_good : (n : ℕ) → n < 2 ^ 64 → Decimal n (decimal n)
decimal_good = decimal_by_steps Decimal one_digit more_digits

some_long : (w : Word) → 0 < length w → some w ≡ true
some_long [] h = absurd (omega arith)
some_long (b ∷ bs) h = refl

-- a word, and numbers behind it
pub words_spaced : (w : Word) (ns : List ℕ) → AllByRecursion Solid w → 0 < length w → AllByRecursion (λ n. n < 2 ^ 64) ns → words_of (w ++ spaced ns) ≡ w ∷ map decimal ns
unfolding spaced
words_spaced w [] h l a =
    ap words_of (append-nil w) ∙ ap (filter some) (parts_last Blank w (solid_clear Blank w h) l) ∙ cond-true (some w) (w ∷ []) [] (some_long w l)
words_spaced w (n ∷ ns) h l a =
    let rest = decimal n ++ spaced ns in
    let good = decimal_good n a.0 in
    ap (filter some) (parts_first Blank w 32 rest (solid_clear Blank w h) refl) ∙ cond-true (some w) (w ∷ words_of rest) (words_of rest) (some_long w l)
    ∙ ap (λ ws. w ∷ ws) (words_spaced (decimal n) ns good.solid good.more a.1)

spaced_clear : (m : Mark) (ns : List ℕ) → marks m 32 ≡ false → AllByRecursion (λ n. n < 2 ^ 64) ns → Clear m (spaced ns)
unfolding spaced
spaced_clear m [] e a = tt
spaced_clear m (n ∷ ns) e a =
    (e, All-append (λ b. marks m b ≡ false) (decimal n) (spaced ns) (solid_clear m (decimal n) (decimal_good n a.0).solid) (spaced_clear m ns e a.1))

-- a written line has no mark but blanks
pub line_clear : (m : Mark) (w : Word) (ns : List ℕ) → marks m 32 ≡ false → AllByRecursion Solid w → AllByRecursion (λ n. n < 2 ^ 64) ns → Clear m (w ++ spaced ns)
line_clear m w ns e h a = All-append (λ b. marks m b ≡ false) w (spaced ns) (solid_clear m w h) (spaced_clear m ns e a)
