-- What a byte tells of a test, by what bytes tell of its parts.
use Rattle.std.proofs.Common.{◌≡◌, ℕ, ◌+◌, ◌-◌, ◌≤◌, min, max, Bool, true, false, not, ◌&&◌, ◌||◌, eqb, sym, refl, ap, ◌∙◌, subst, ⊎_elim, arith}
use Rattle.std.proofs.lemmas.Bool.{cases_Bool, cases_lt, cond-true, cond-false, leb-true, leb-false, le-leb, lt-leb, and_left, or_left}
use Rattle.packet.specs.Packet.{Packet, field}
use Rattle.packet.specs.Policy.{Test, always, is, both, either, isnt, holds}
use Rattle.levels.specs.Bytes.{says_yes, level_of, field_level, is_byte, TestRests, Tells}
use Rattle.levels.proofs.Likes.{agree_less, like_field}

pub tells_always : (p q : Packet) → Tells 255 always p q
unfolding holds
tells_always p q = (refl, λ r s a k. refl)

-- a test that no packet passes
pub tells_never : (p q : Packet) → Tells 0 (isnt always) p q
unfolding holds
tells_never p q = (refl, λ r s a k. refl)

-- the field is the same in all of them
is_rests : (p q : Packet) (f x n : ℕ) → field_level (field f p) (field f q) f ≤ n → TestRests (is f x) n p q
unfolding holds
is_rests p q f x n le r s a k =
    ap (λ v. eqb v x)
    (sym (like_field (field f p) (field f r) (field f q) (field f s) (k.at f)
    (λ t. a f (omega (arith, cond-true (eqb (field f q) (field f p)) (f + 1) 0 t)))))

level_small : (y v f : ℕ) → f ≤ 7 → field_level y v f ≤ 8
level_small y v f le = ⊎_elim (λ t. omega (arith, cond-true (eqb v y) (f + 1) 0 t)) (λ t. omega (arith, cond-false (eqb v y) (f + 1) 0 t)) (cases_Bool (eqb v y))

pub tells_is : (p q : Packet) (f x : ℕ) → f ≤ 7 → Tells (is_byte (field f p) (field f q) f x) (is f x) p q
unfolding holds
tells_is p q f x le =
    let n = field_level (field f p) (field f q) f in
    let small = level_small (field f p) (field f q) f le in
    ⊎_elim
    (λ t.
    let e = cond-true (eqb (field f q) x) (255 - n) n t in
    subst (λ b. Tells b (is f x) p q) (sym e) (le-leb 128 (255 - n) (omega arith) ∙ sym t, is_rests p q f x (level_of (255 - n)) (omega arith)))
    (λ t.
    let e = cond-false (eqb (field f q) x) (255 - n) n t in
    subst (λ b. Tells b (is f x) p q) (sym e) (lt-leb 128 n (omega arith) ∙ sym t, is_rests p q f x (level_of n) (omega arith)))
    (cases_Bool (eqb (field f q) x))

module _ (p q : Packet) (d e : ℕ) (t u : Test) (h : Tells d t p q) (k : Tells e u p q) where
  -- where the first decides
  both_first : d ≤ e → Tells d (both t u) p q
  unfolding holds
  both_first le =
      ⊎_elim
      (λ yes-d.
      let yes_e : says_yes e ≡ true = le-leb 128 e (omega (arith, leb-true 128 d yes-d)) in
      let level : level_of e ≤ level_of d = omega (arith, leb-true 128 d yes-d) in (
        yes-d ∙ (λ i. (sym yes-d ∙ h.0) i && (sym yes_e ∙ k.0) i),
        λ r s a l i. h.1 r s a l i && k.1 r s (agree_less _ _ p r level a) l i,
      ))
      (λ no-d. (
        no-d ∙ sym (and_left (holds t q) (holds u q) (sym h.0 ∙ no-d)),
        λ r s a l. and_left (holds t s) (holds u s) (h.1 r s a l ∙ sym h.0 ∙ no-d) ∙ sym (and_left (holds t q) (holds u q) (sym h.0 ∙ no-d)),
      ))
      (cases_Bool (says_yes d))

  either_first : e ≤ d → Tells d (either t u) p q
  unfolding holds
  either_first le =
      ⊎_elim
      (λ yes-d. (
        yes-d ∙ sym (or_left (holds t q) (holds u q) (sym h.0 ∙ yes-d)),
        λ r s a l. or_left (holds t s) (holds u s) (h.1 r s a l ∙ sym h.0 ∙ yes-d) ∙ sym (or_left (holds t q) (holds u q) (sym h.0 ∙ yes-d)),
      ))
      (λ no-d.
      let no_e : says_yes e ≡ false = lt-leb 128 e (omega (arith, leb-false 128 d no-d)) in
      let level : level_of e ≤ level_of d = omega (arith, leb-false 128 d no-d) in (
        no-d ∙ (λ i. (sym no-d ∙ h.0) i || (sym no_e ∙ k.0) i),
        λ r s a l i. h.1 r s a l i || k.1 r s (agree_less _ _ p r level a) l i,
      ))
      (cases_Bool (says_yes d))

and_swap : (x y : Bool) → (x && y) ≡ (y && x)
and_swap true true = refl
and_swap true false = refl
and_swap false true = refl
and_swap false false = refl

or_swap : (x y : Bool) → (x || y) ≡ (y || x)
or_swap true true = refl
or_swap true false = refl
or_swap false true = refl
or_swap false false = refl

both_swap : (p q : Packet) (e : ℕ) (t u : Test) → Tells e (both u t) p q → Tells e (both t u) p q
unfolding holds
both_swap p q e t u h = (h.0 ∙ and_swap (holds u q) (holds t q), λ r s a k. and_swap (holds t s) (holds u s) ∙ h.1 r s a k ∙ and_swap (holds u q) (holds t q))

either_swap : (p q : Packet) (e : ℕ) (t u : Test) → Tells e (either u t) p q → Tells e (either t u) p q
unfolding holds
either_swap p q e t u h = (h.0 ∙ or_swap (holds u q) (holds t q), λ r s a k. or_swap (holds t s) (holds u s) ∙ h.1 r s a k ∙ or_swap (holds u q) (holds t q))

module _ (p q : Packet) (d e : ℕ) (t u : Test) (h : Tells d t p q) (k : Tells e u p q) where
  pub tells_both : Tells (min d e) (both t u) p q
  tells_both =
      ⊎_elim
      (λ lt. let is : d ≡ min d e = omega arith in subst (λ b. Tells b (both t u) p q) is (both_first p q d e t u h k (omega arith)))
      (λ le. let is : e ≡ min d e = omega arith in subst (λ b. Tells b (both t u) p q) is (both_swap p q e t u (both_first p q e d u t k h le)))
      (cases_lt d e)

  pub tells_either : Tells (max d e) (either t u) p q
  tells_either =
      ⊎_elim
      (λ lt. let is : e ≡ max d e = omega arith in subst (λ b. Tells b (either t u) p q) is (either_swap p q e t u (either_first p q e d u t k h (omega arith))))
      (λ le. let is : d ≡ max d e = omega arith in subst (λ b. Tells b (either t u) p q) is (either_first p q d e t u h k le))
      (cases_lt d e)

pub tells_not : (p q : Packet) (e : ℕ) (t : Test) → Tells e t p q → Tells (255 - e) (isnt t) p q
unfolding holds
tells_not p q e t h = (
  ⊎_elim
      (λ yes_e. lt-leb 128 (255 - e) (omega (arith, leb-true 128 e yes_e)) ∙ ap not (sym yes_e ∙ h.0))
      (λ no_e. le-leb 128 (255 - e) (omega (arith, leb-false 128 e no_e)) ∙ ap not (sym no_e ∙ h.0))
      (cases_Bool (says_yes e)),
  λ r s a k. ap not (h.1 r s (agree_less _ _ p r (omega arith) a) k),
)
