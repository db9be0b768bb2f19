-- Cutting bytes at the first mark, byte by byte and as a whole.
use Rattle.std.proofs.Common.{◌≡◌, ℕ, zero, suc, ◌+◌, ◌<◌, ◌≤◌, true, false, cond, eqb, List, [], ◌∷◌, length, get_or, take, drop, filter, sym, refl, ap, ◌∙◌, arith}
use Rattle.notation.specs.declared.marks.Mark.{Mark}
use Rattle.notation.specs.Marks.{marks, before, behind, onto, parts}
use Rattle.notation.specs.Words.{some, words_of, unblanked}
use Rattle.notation.specs.declared.marks.Mark.TheVariants.{Blank}
use Rattle.std.proofs.lemmas.Bool.{eqb-true, cond-true, cond-false, true≢false, false≢true}

-- the first mark stands at i
pub front_at : (m : Mark) (bs : List ℕ) (i : ℕ) → i < length bs → marks m (get_or bs i 0) ≡ true → ((k : ℕ) → k < i → marks m (get_or bs k 0) ≡ false) → take i bs ≡ before m bs
unfolding before
front_at m [] i h at none = absurd (omega arith)
front_at m (b ∷ bs) zero h at none = sym (cond-true _ _ _ at)
front_at m (b ∷ bs) (suc i) h at none =
    ap (λ l. b ∷ l) (front_at m bs i (omega arith) at (λ k lt. none (suc k) (omega arith))) ∙ sym (cond-false _ _ _ (none 0 (omega arith)))

pub back_at : (m : Mark) (bs : List ℕ) (i : ℕ) → i < length bs → marks m (get_or bs i 0) ≡ true → ((k : ℕ) → k < i → marks m (get_or bs k 0) ≡ false) → drop (suc i) bs ≡ behind m bs
unfolding behind
back_at m [] i h at none = absurd (omega arith)
back_at m (b ∷ bs) zero h at none = sym (cond-true _ _ _ at)
back_at m (b ∷ bs) (suc i) h at none =
    back_at m bs i (omega arith) at (λ k lt. none (suc k) (omega arith)) ∙ sym (cond-false _ _ _ (none 0 (omega arith)))

-- no mark at all
pub front_all : (m : Mark) (bs : List ℕ) → ((k : ℕ) → k < length bs → marks m (get_or bs k 0) ≡ false) → bs ≡ before m bs
unfolding before
front_all m [] none = refl
front_all m (b ∷ bs) none = ap (λ l. b ∷ l) (front_all m bs (λ k lt. none (suc k) (omega arith))) ∙ sym (cond-false _ _ _ (none 0 (omega arith)))

pub back_all : (m : Mark) (bs : List ℕ) → ((k : ℕ) → k < length bs → marks m (get_or bs k 0) ≡ false) → [] ≡ behind m bs
unfolding behind
back_all m [] none = refl
back_all m (b ∷ bs) none = back_all m bs (λ k lt. none (suc k) (omega arith)) ∙ sym (cond-false _ _ _ (none 0 (omega arith)))

-- the first part, and those behind its mark
parts_step : (m : Mark) (b : ℕ) (bs : List ℕ) → onto b (parts m bs) ≡ (b ∷ before m bs) ∷ parts m (behind m bs) → parts m (b ∷ bs) ≡ before m (b ∷ bs) ∷ parts m (behind m (b ∷ bs))
unfolding before behind parts
parts_step m b bs e =
    elim (marks m b) as (λ t. cond t ([] ∷ parts m bs) (onto b (parts m bs)) ≡ cond t [] (b ∷ before m bs) ∷ parts m (cond t bs (behind m bs)))
    [ true ↦ refl | false ↦ e ]

parts_inner : (m : Mark) (b : ℕ) (bs : List ℕ) → onto b (parts m bs) ≡ (b ∷ before m bs) ∷ parts m (behind m bs)
unfolding before behind parts
parts_inner m b [] = refl
parts_inner m b (d ∷ ds) = ap (onto b) (parts_step m d ds (parts_inner m d ds))

pub parts_cut : (m : Mark) (bs : List ℕ) → 0 < length bs → parts m bs ≡ before m bs ∷ parts m (behind m bs)
parts_cut m [] h = absurd (omega arith)
parts_cut m (b ∷ bs) h = parts_step m b bs (parts_inner m b bs)

onto_long : (b : ℕ) (ps : List (List ℕ)) → length (onto b ps) ≤ length ps + 1
onto_long b [] = omega arith
onto_long b (p ∷ ps) = omega arith

-- there are no more parts than bytes
pub parts_few : (m : Mark) (bs : List ℕ) → length (parts m bs) ≤ length bs
unfolding parts
parts_few m [] = omega arith
parts_few m (b ∷ bs) =
    elim (marks m b) as (λ t. length (cond t ([] ∷ parts m bs) (onto b (parts m bs))) ≤ length (b ∷ bs))
    [ true ↦ omega (arith, parts_few m bs) | false ↦ omega (arith, parts_few m bs, onto_long b (parts m bs)) ]

-- the next word is what stands before the next blank, unless that is nothing
pub words_cut : (bs : List ℕ) → 0 < length bs → words_of bs ≡ cond (some (before Blank bs)) (before Blank bs ∷ words_of (behind Blank bs)) (words_of (behind Blank bs))
words_cut bs h = ap (filter some) (parts_cut Blank bs h)

pub some_word : (w : List ℕ) → eqb (length w) 0 ≡ false → some w ≡ true
some_word [] h = sym h
some_word (b ∷ bs) h = refl

pub no_word : (w : List ℕ) → eqb (length w) 0 ≡ true → some w ≡ false
no_word [] h = refl
no_word (b ∷ bs) h = absurd (omega (arith, eqb-true (length (b ∷ bs)) 0 h))

pub no_words : (bs : List ℕ) → length bs ≡ 0 → words_of bs ≡ []
unfolding parts
no_words [] h = refl
no_words (b ∷ bs) h = absurd (omega arith)

-- a word, and nothing between two blanks
pub words_next : (bs w rest : List ℕ) → 0 < length bs → w ≡ before Blank bs → rest ≡ behind Blank bs → eqb (length w) 0 ≡ false → words_of bs ≡ w ∷ words_of rest
words_next bs w rest h e f n =
    words_cut bs h ∙ ap (λ v. cond (some v) (v ∷ words_of (behind Blank bs)) (words_of (behind Blank bs))) (sym e)
    ∙ cond-true (some w) _ _ (some_word w n) ∙ ap (λ r. w ∷ words_of r) (sym f)

pub words_skip : (bs w rest : List ℕ) → 0 < length bs → w ≡ before Blank bs → rest ≡ behind Blank bs → eqb (length w) 0 ≡ true → words_of bs ≡ words_of rest
words_skip bs w rest h e f n =
    words_cut bs h ∙ ap (λ v. cond (some v) (v ∷ words_of (behind Blank bs)) (words_of (behind Blank bs))) (sym e)
    ∙ cond-false (some w) _ _ (no_word w n) ∙ ap words_of (sym f)

-- bytes that begin with a word, and with a blank
pub unblanked_word : (bs : List ℕ) → some (before Blank bs) ≡ true → unblanked bs ≡ bs
unfolding before unblanked
unblanked_word [] h = refl
unblanked_word (b ∷ bs) h =
    elim (marks Blank b) as (λ t. some (cond t [] (b ∷ before Blank bs)) ≡ true → cond t (unblanked bs) (b ∷ bs) ≡ b ∷ bs)
    [ true ↦ λ e. absurd (false≢true e) | false ↦ λ e. refl ] h

pub unblanked_blank : (bs : List ℕ) → 0 < length bs → some (before Blank bs) ≡ false → unblanked bs ≡ unblanked (behind Blank bs)
unfolding before behind unblanked
unblanked_blank [] l h = refl
unblanked_blank (b ∷ bs) l h =
    elim (marks Blank b) as (λ t. some (cond t [] (b ∷ before Blank bs)) ≡ false → cond t (unblanked bs) (b ∷ bs) ≡ unblanked (cond t bs (behind Blank bs)))
    [ true ↦ λ e. refl | false ↦ λ e. absurd (true≢false e) ] h

pub unblanked_none : (bs : List ℕ) → length bs ≡ 0 → behind Blank (unblanked bs) ≡ bs
unfolding behind unblanked
unblanked_none [] h = refl
unblanked_none (b ∷ bs) h = absurd (omega arith)
