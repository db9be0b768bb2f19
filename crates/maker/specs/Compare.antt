-- Comparing the words of two tables, of which the first is read without the wants of one field.
--   Past       what is left of both when a part of them was the same
--   words_past, wants_past, outs_past, rule_past   the same words; wants, outs and a rule that are the same
use Rattle.std.specs.Prelude.{ℕ, zero, suc, ◌+◌, ◌*◌, Bool, true, false, cond, ◌&&◌, List, [], ◌∷◌, length, Some, None, Option, ◌==◌}

abbrev pub Past : Type 0
Past = Option (List ℕ × List ℕ)

abbrev pub on_past : Past → (List ℕ → List ℕ → Past) → Past
on_past None f = None
on_past (Some p) f = f p.0 p.1

-- n words
abbrev pub words_past : ℕ → List ℕ → List ℕ → Past
words_past zero ys ns = Some (ys, ns)
words_past (suc k) [] ns = None
words_past (suc k) (a ∷ ys) [] = None
words_past (suc k) (a ∷ ys) (b ∷ ns) = cond (a == b) (words_past k ys ns) None

-- the want (g, x) of the first, left out if its field is f; v wants are still to come in the second
abbrev pub Next : Type 0
Next = Option (ℕ × List ℕ)

abbrev pub same_next : ℕ → ℕ → ℕ → List ℕ → Next
same_next g x zero ns = None
same_next g x (suc v) [] = None
same_next g x (suc v) (h ∷ []) = None
same_next g x (suc v) (h ∷ (y ∷ ns)) = cond (g == h && x == y) (Some (v, ns)) None

abbrev pub want_next : ℕ → ℕ → ℕ → ℕ → List ℕ → Next
want_next f g x v ns = cond (g == f) (Some (v, ns)) (same_next g x v ns)

abbrev pub on_next : Next → (ℕ → List ℕ → Past) → Past
on_next None f = None
on_next (Some p) f = f p.0 p.1

-- k wants of the first
abbrev pub wants_past : ℕ → ℕ → ℕ → List ℕ → List ℕ → Past
wants_past f zero v ys ns = cond (v == 0) (Some (ys, ns)) None
wants_past f (suc k) v [] ns = None
wants_past f (suc k) v (g ∷ []) ns = None
wants_past f (suc k) v (g ∷ (x ∷ ys)) ns = on_next (want_next f g x v ns) (λ u ms. wants_past f k u ys ms)

-- k outs
abbrev pub out_past : List ℕ → List ℕ → Past
out_past [] ns = None
out_past (c ∷ ys) ns = words_past (1 + 2 * c) (c ∷ ys) ns

abbrev pub outs_past : ℕ → List ℕ → List ℕ → Past
outs_past zero ys ns = Some (ys, ns)
outs_past (suc k) ys ns = on_past (out_past ys ns) (outs_past k)

-- outs with their number in front
abbrev pub all_outs_past : List ℕ → List ℕ → Past
all_outs_past [] ns = None
all_outs_past (k ∷ ys) ns = on_past (words_past 1 (k ∷ ys) ns) (outs_past k)

abbrev pub rule_past : ℕ → List ℕ → List ℕ → Past
rule_past f [] ns = None
rule_past f (w ∷ ys) [] = None
rule_past f (w ∷ ys) (v ∷ ns) = on_past (wants_past f w v ys ns) all_outs_past

-- all rules, of which there are at most n
abbrev pub is_none : List ℕ → Bool
is_none [] = true
is_none (w ∷ ws) = false

abbrev pub if_past : Past → (List ℕ → List ℕ → Bool) → Bool
if_past None f = false
if_past (Some p) f = f p.0 p.1

abbrev pub same_from : ℕ → ℕ → List ℕ → List ℕ → Bool
same_from f n [] ns = is_none ns
same_from f zero (y ∷ ys) ns = false
same_from f (suc n) (y ∷ ys) ns = if_past (rule_past f (y ∷ ys) ns) (same_from f n)

abbrev pub same_without : ℕ → List ℕ → List ℕ → Bool
same_without f ys ns = same_from f (length ys) ys ns
