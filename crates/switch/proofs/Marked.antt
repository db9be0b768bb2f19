-- The latest marks: none at first, and whether all have come far enough.
use Rattle.std.proofs.Common.{◌≡◌, ℕ, zero, suc, ◌<◌, Bool, true, false, not, ◌&&◌, ◌||◌, List, length, get_or, replicate, sym, refl, ap, ◌∙◌, ⊎_elim, arith}
use Rattle.std.proofs.lemmas.Bool.Decides.{eqb_tells}
use Rattle.run.specs.Net.{Wire}
use Rattle.run.specs.Switch as run
use Rattle.run.specs.Switch.{all_reach, is_cable, later, reaches}
use Rattle.switch.specs.Marking.{Drawn, mark_of, no_mark, no_marks}

none_of : (n p : ℕ) → get_or (replicate n no_mark) p no_mark ≡ no_mark
none_of zero p = refl
none_of (suc n) zero = refl
none_of (suc n) (suc p) = none_of n p

pub no_marks_lem : ◌≡◌ {A = ℕ → run.Mark} (λ p. mark_of (get_or (replicate 32 no_mark) p no_mark)) no_marks
no_marks_lem = λ k p. mark_of (none_of 32 p k)

and_false : (b : Bool) → (b && false) ≡ false
and_false true = refl
and_false false = refl

not_all : (n i : ℕ) (wire : ℕ → Wire) (m : run.Mark) (latest : ℕ → run.Mark) → i < n → (not (is_cable (wire i)) || reaches m (latest i)) ≡ false → all_reach n wire m latest ≡ false
unfolding all_reach
not_all zero i wire m latest h e = absurd (omega arith)
not_all (suc n) i wire m latest h e =
    ⊎_elim
    (λ p. ap (λ j. all_reach n wire m latest && (not (is_cable (wire j)) || reaches m (latest j))) (sym p.1) ∙ ap (λ b. all_reach n wire m latest && b) e ∙ and_false (all_reach n wire m latest))
    (λ p. ap (λ b. b && (not (is_cable (wire n)) || reaches m (latest n))) (not_all n i wire m latest (omega (arith, p.1)) e))
    (eqb_tells i n)

-- the first ports have come far enough
all_through : (n : ℕ) (wire : ℕ → Wire) (m : run.Mark) (latest : ℕ → run.Mark) → ((k : ℕ) → k < n → (not (is_cable (wire k)) || reaches m (latest k)) ≡ true) → all_reach n wire m latest ≡ true
unfolding all_reach
all_through zero wire m latest all = refl
all_through (suc n) wire m latest all = ap (λ b. b && (not (is_cable (wire n)) || reaches m (latest n))) (all_through n wire m latest (λ k h. all k (omega arith))) ∙ all n (omega arith)

-- whether a port is passed: it has no cable, or its latest mark has come far enough
abbrev pub passed : List Bool → run.Mark → (ℕ → run.Mark) → ℕ → Bool
passed cables m latest k = not (get_or cables k false) || reaches m (latest k)

-- the answer r is true where all ports are passed, and false where one is not
pub told_by_all : (r : Bool) (cables : List Bool) (wire : ℕ → Wire) (m : run.Mark) (latest : ℕ → run.Mark) → Drawn cables wire →
    (r ≡ true → (k : ℕ) → k < length cables → passed cables m latest k ≡ true) →
    (r ≡ false → (k : ℕ) × (k < length cables) × (passed cables m latest k ≡ false)) → r ≡ all_reach (length cables) wire m latest
told_by_all true cables wire m latest drawn all one = sym (all_through (length cables) wire m latest (λ k h. ap (λ b. not b || reaches m (latest k)) (drawn k h) ∙ all refl k h))
told_by_all false cables wire m latest drawn all one =
    let p = one refl in
    sym (not_all (length cables) p.0 wire m latest p.1 (ap (λ b. not b || reaches m (latest p.0)) (drawn p.0 p.1) ∙ p.2))
