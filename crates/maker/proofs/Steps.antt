-- One step of comparing words.
use Rattle.std.proofs.Common.{◌≡◌, ℕ, zero, suc, ◌+◌, ◌-◌, ◌<◌, ◌≤◌, List, [], ◌∷◌, length, get_or, take, drop, Some, None, eqb, sym, refl, ap, ◌∙◌, arith}
use Rattle.std.proofs.lemmas.List.{take_all}
use Rattle.std.proofs.lemmas.Bool.{eq-eqb, eqb-true, cond-true, cond_both}
use Rattle.maker.specs.Compare.{on_past, words_past, want_next, on_next, wants_past, out_past, outs_past, rule_past, if_past, same_from}

-- what a slice pattern leaves behind the first two words
abbrev pub behind_two : List ℕ → List ℕ
behind_two ws = take (length ws - 2) (drop 2 ws)

pub behind_two_is : (a b : ℕ) (ws : List ℕ) → behind_two (a ∷ (b ∷ ws)) ≡ ws
behind_two_is a b ws = take_all (length (a ∷ (b ∷ ws)) - 2) ws (omega arith)

-- the words of a part
pub words_same : (k : ℕ) (ys ns : List ℕ) → k ≤ length ys → k ≤ length ns → take k ys ≡ take k ns → Some (drop k ys, drop k ns) ≡ words_past k ys ns
words_same zero ys ns hy hn e = refl
words_same (suc k) [] ns hy hn e = absurd (omega arith)
words_same (suc k) (a ∷ ys) [] hy hn e = absurd (omega arith)
words_same (suc k) (a ∷ ys) (b ∷ ns) hy hn e =
    let first : a ≡ b = cc in
    let rest : take k ys ≡ take k ns = cc in
    words_same k ys ns (omega arith) (omega arith) rest ∙ sym (cond-true _ _ _ (eq-eqb a b first))

pub words_other : (k : ℕ) (ys ns : List ℕ) → k ≤ length ys → k ≤ length ns → (take k ys ≡ take k ns → ⊥) → None ≡ words_past k ys ns
words_other zero ys ns hy hn ne = absurd (ne refl)
words_other (suc k) [] ns hy hn ne = absurd (omega arith)
words_other (suc k) (a ∷ ys) [] hy hn ne = absurd (omega arith)
words_other (suc k) (a ∷ ys) (b ∷ ns) hy hn ne =
    cond_both (eqb a b) _ _ (λ p. None ≡ p) (λ e. words_other k ys ns (omega arith) (omega arith) (λ d. ne (λ i. eqb-true a b e i ∷ d i))) (λ e. refl)

pub words_out : (k : ℕ) (ys ns : List ℕ) → length ys < k → None ≡ words_past k ys ns
words_out zero ys ns h = absurd (omega arith)
words_out (suc k) [] ns h = refl
words_out (suc k) (a ∷ ys) [] h = refl
words_out (suc k) (a ∷ ys) (b ∷ ns) h = cond_both (eqb a b) _ _ (λ p. None ≡ p) (λ e. words_out k ys ns (omega arith)) (λ e. refl)

pub words_end : (k : ℕ) (ys ns : List ℕ) → length ns < k → None ≡ words_past k ys ns
words_end zero ys ns h = absurd (omega arith)
words_end (suc k) [] ns h = refl
words_end (suc k) (a ∷ ys) [] h = refl
words_end (suc k) (a ∷ ys) (b ∷ ns) h = cond_both (eqb a b) _ _ (λ p. None ≡ p) (λ e. words_end k ys ns (omega arith)) (λ e. refl)

-- the wants of a rule
module _ (f k i : ℕ) (lt : i < k) where
  one_want : k - i ≡ suc (k - (i + 1))
  one_want = omega arith

  pub wants_more : (v u : ℕ) (ys ns ms : List ℕ) → 2 ≤ length ys → Some (u, ms) ≡ want_next f (get_or ys 0 0) (get_or ys 1 0) v ns →
      wants_past f (k - (i + 1)) u (behind_two ys) ms ≡ wants_past f (k - i) v ys ns
  wants_more v u [] ns ms h e = absurd (omega arith)
  wants_more v u (g ∷ []) ns ms h e = absurd (omega arith)
  wants_more v u (g ∷ (x ∷ ys)) ns ms h e =
      ap (λ l. wants_past f (k - (i + 1)) u l ms) (behind_two_is g x ys) ∙ ap (λ n. on_next n (λ t l. wants_past f (k - (i + 1)) t ys l)) e
      ∙ ap (λ m. wants_past f m v (g ∷ (x ∷ ys)) ns) (sym one_want)

-- the outs of a rule
module _ (k i : ℕ) (lt : i < k) where
  one_out : k - i ≡ suc (k - (i + 1))
  one_out = omega arith

  pub outs_more : (ys ns ls ms : List ℕ) → Some (ls, ms) ≡ out_past ys ns → outs_past (k - (i + 1)) ls ms ≡ outs_past (k - i) ys ns
  outs_more ys ns ls ms e = ap (λ p. on_past p (outs_past (k - (i + 1)))) e ∙ ap (λ m. outs_past m ys ns) (sym one_out)

-- the rules of a table
module _ (f k i : ℕ) (lt : i < k) where
  one_rule : k - i ≡ suc (k - (i + 1))
  one_rule = omega arith

  pub rules_more : (ys ns ls ms : List ℕ) → 1 ≤ length ys → Some (ls, ms) ≡ rule_past f ys ns → same_from f (k - (i + 1)) ls ms ≡ same_from f (k - i) ys ns
  rules_more [] ns ls ms h e = absurd (omega arith)
  rules_more (y ∷ ys) ns ls ms h e = ap (λ p. if_past p (same_from f (k - (i + 1)))) e ∙ ap (λ m. same_from f m (y ∷ ys) ns) (sym one_rule)
