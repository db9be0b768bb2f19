-- Comparing the words of two tables compares the tables.
use Rattle.std.proofs.Common.{◌≡◌, ℕ, zero, suc, ◌+◌, ◌*◌, ◌≤◌, Bool, true, false, cond, ◌&&◌, eqb, List, [], ◌∷◌, ◌++◌, length, Some, None, sym, refl, ap, ◌∙◌, ⊎_elim, arith}
use Rattle.std.specs.List.{flat_map}
use Rattle.std.proofs.lemmas.List.{append_assoc, length-append}
use Rattle.std.proofs.lemmas.Bool.{ne_eqb, eqb-true, eqb-false, cases_Bool, cond-true, cond-false, and_right}
use Rattle.packet.specs.Table.{Want, Setting, Rule, Table}
use Rattle.prescribed.specs.Table.{drop_field, without, same_want, same_setting, same_list, same_rule}
use Rattle.table.specs.Words.{want_words, setting_words, out_words, rule_words, encode}
use Rattle.maker.specs.Compare.{Past, on_past, words_past, same_next, on_next, wants_past, out_past, outs_past, all_outs_past, rule_past, if_past, same_from}

-- both rests, if the parts in front of them are the same
abbrev ends : Bool → List ℕ → List ℕ → Past
ends t ys ns = cond t (Some (ys, ns)) None

cond_and : (s t : Bool) (x : Past) → cond s (cond t x None) None ≡ cond (s && t) x None
cond_and true t x = refl
cond_and false t x = refl

on_ends : (t : Bool) (ys ns : List ℕ) (f : List ℕ → List ℕ → Past) → on_past (ends t ys ns) f ≡ cond t (f ys ns) None
on_ends true ys ns f = refl
on_ends false ys ns f = refl

and_assoc : (a b c : Bool) → ((a && b) && c) ≡ (a && (b && c))
and_assoc true b c = refl
and_assoc false b c = refl

-- lists of different lengths are not the same
lengths_differ : {A : Type 0} (same : A → A → Bool) (xs ys : List A) → eqb (length xs) (length ys) ≡ false → same_list same xs ys ≡ false
unfolding same_list
lengths_differ same [] [] e = e
lengths_differ same [] (y ∷ ys) e = refl
lengths_differ same (x ∷ xs) [] e = refl
lengths_differ same (x ∷ xs) (y ∷ ys) e = and_right (same x y) (same_list same xs ys) (lengths_differ same xs ys (ne_eqb _ _ (λ h. eqb-false _ _ e (ap suc h))))

-- the settings of an out
settings_past : (o p : List Setting) (ys ns : List ℕ) → length o ≡ length p →
    words_past (2 * length o) (flat_map setting_words o ++ ys) (flat_map setting_words p ++ ns) ≡ ends (same_list same_setting o p) ys ns
unfolding same_list
settings_past [] [] ys ns e = refl
settings_past [] (t ∷ p) ys ns e = absurd (omega arith)
settings_past (s ∷ o) [] ys ns e = absurd (omega arith)
settings_past (s ∷ o) (t ∷ p) ys ns e =
    let two : 2 * suc (length o) ≡ suc (suc (2 * length o)) = omega arith in
    ap (λ k. words_past k (flat_map setting_words (s ∷ o) ++ ys) (flat_map setting_words (t ∷ p) ++ ns)) two
    ∙ ap (λ x. cond (eqb s.at t.at) (cond (eqb s.value t.value) x None) None) (settings_past o p ys ns (omega arith))
    ∙ ap (λ x. cond (eqb s.at t.at) x None) (cond_and (eqb s.value t.value) (same_list same_setting o p) (Some (ys, ns)))
    ∙ cond_and (eqb s.at t.at) _ (Some (ys, ns)) ∙ ap (λ b. ends b ys ns) (sym (and_assoc (eqb s.at t.at) (eqb s.value t.value) _))

-- a number in front of things that are compared by their words
counted : {A : Type 0} (same : A → A → Bool) (xs zs : List A) (ys ns : List ℕ) (more : Past) →
    (length xs ≡ length zs → more ≡ ends (same_list same xs zs) ys ns) → cond (eqb (length xs) (length zs)) more None ≡ ends (same_list same xs zs) ys ns
counted same xs zs ys ns more h =
    ⊎_elim
    (λ t. cond-true _ _ _ t ∙ h (eqb-true _ _ t))
    (λ f. cond-false _ _ _ f ∙ sym (ap (λ b. ends b ys ns) (lengths_differ same xs zs f)))
    (cases_Bool (eqb (length xs) (length zs)))

out_past_lem : (o p : List Setting) (ys ns : List ℕ) → out_past (out_words o ++ ys) (out_words p ++ ns) ≡ ends (same_list same_setting o p) ys ns
out_past_lem o p ys ns =
    let one : 1 + 2 * length o ≡ suc (2 * length o) = omega arith in
    ap (λ k. words_past k (out_words o ++ ys) (out_words p ++ ns)) one
    ∙ counted same_setting o p ys ns _ (settings_past o p ys ns)

outs_past_lem : (os ps : List (List Setting)) (ys ns : List ℕ) → length os ≡ length ps →
    outs_past (length os) (flat_map out_words os ++ ys) (flat_map out_words ps ++ ns) ≡ ends (same_list (same_list same_setting) os ps) ys ns
unfolding same_list
outs_past_lem [] [] ys ns e = refl
outs_past_lem [] (p ∷ ps) ys ns e = absurd (omega arith)
outs_past_lem (o ∷ os) [] ys ns e = absurd (omega arith)
outs_past_lem (o ∷ os) (p ∷ ps) ys ns e =
    (λ z. on_past (out_past (append_assoc (out_words o) (flat_map out_words os) ys z) (append_assoc (out_words p) (flat_map out_words ps) ns z)) (outs_past (length os)))
    ∙ ap (λ x. on_past x (outs_past (length os))) (out_past_lem o p (flat_map out_words os ++ ys) (flat_map out_words ps ++ ns))
    ∙ on_ends (same_list same_setting o p) _ _ (outs_past (length os))
    ∙ ap (λ x. cond (same_list same_setting o p) x None) (outs_past_lem os ps ys ns (omega arith))
    ∙ cond_and (same_list same_setting o p) _ (Some (ys, ns))

all_outs_past_lem : (os ps : List (List Setting)) (ys ns : List ℕ) →
    all_outs_past ((length os ∷ flat_map out_words os) ++ ys) ((length ps ∷ flat_map out_words ps) ++ ns) ≡ ends (same_list (same_list same_setting) os ps) ys ns
all_outs_past_lem os ps ys ns =
    on_cond (eqb (length os) (length ps)) ∙ counted (same_list same_setting) os ps ys ns _ (outs_past_lem os ps ys ns)
  where
    on_cond : (t : Bool) → on_past (cond t (Some (flat_map out_words os ++ ys, flat_map out_words ps ++ ns)) None) (outs_past (length os))
        ≡ cond t (outs_past (length os) (flat_map out_words os ++ ys) (flat_map out_words ps ++ ns)) None
    on_cond t = on_ends t _ _ (outs_past (length os))

-- the wants, without those of the field f
wants_past_lem : (f : ℕ) (ws vs : List Want) (ys ns : List ℕ) →
    wants_past f (length ws) (length vs) (flat_map want_words ws ++ ys) (flat_map want_words vs ++ ns) ≡ ends (same_list same_want (drop_field f ws) vs) ys ns
unfolding same_list drop_field
wants_past_lem f [] [] ys ns = refl
wants_past_lem f [] (v ∷ vs) ys ns = cond-false _ _ _ (ne_eqb (suc (length vs)) 0 (λ e. omega arith))
wants_past_lem f (w ∷ ws) [] ys ns = go (eqb w.at f) (wants_past_lem f ws [] ys ns)
  where
    go : (t : Bool) → wants_past f (length ws) 0 (flat_map want_words ws ++ ys) ns ≡ ends (same_list same_want (drop_field f ws) []) ys ns →
        on_next (cond t (Some (0, ns)) None) (λ u ms. wants_past f (length ws) u (flat_map want_words ws ++ ys) ms)
        ≡ ends (same_list same_want (cond t (drop_field f ws) (w ∷ drop_field f ws)) []) ys ns
    go true h = h
    go false h = refl
wants_past_lem f (w ∷ ws) (v ∷ vs) ys ns = go (eqb w.at f) (wants_past_lem f ws (v ∷ vs) ys ns) (wants_past_lem f ws vs ys ns)
  where
    next : (t : Bool) → wants_past f (length ws) (length vs) (flat_map want_words ws ++ ys) (flat_map want_words vs ++ ns) ≡ ends (same_list same_want (drop_field f ws) vs) ys ns →
        on_next (cond t (Some (length vs, flat_map want_words vs ++ ns)) None) (λ u ms. wants_past f (length ws) u (flat_map want_words ws ++ ys) ms)
        ≡ ends (t && same_list same_want (drop_field f ws) vs) ys ns
    next true h = h
    next false h = refl

    go : (t : Bool) →
        wants_past f (length ws) (suc (length vs)) (flat_map want_words ws ++ ys) (flat_map want_words (v ∷ vs) ++ ns) ≡ ends (same_list same_want (drop_field f ws) (v ∷ vs)) ys ns →
        wants_past f (length ws) (length vs) (flat_map want_words ws ++ ys) (flat_map want_words vs ++ ns) ≡ ends (same_list same_want (drop_field f ws) vs) ys ns →
        on_next (cond t (Some (suc (length vs), flat_map want_words (v ∷ vs) ++ ns)) (same_next w.at w.value (suc (length vs)) (flat_map want_words (v ∷ vs) ++ ns)))
        (λ u ms. wants_past f (length ws) u (flat_map want_words ws ++ ys) ms)
        ≡ ends (same_list same_want (cond t (drop_field f ws) (w ∷ drop_field f ws)) (v ∷ vs)) ys ns
    go true h g = h
    go false h g = next (same_want w v) g

dropped : ℕ → Rule → Rule
dropped f r = record { wants = drop_field f r.wants; outs = r.outs }

rule_past_lem : (f : ℕ) (r q : Rule) (ys ns : List ℕ) → rule_past f (rule_words r ++ ys) (rule_words q ++ ns) ≡ ends (same_rule (dropped f r) q) ys ns
unfolding dropped
rule_past_lem f r q ys ns =
    let outs = λ (s : Rule). length s.outs ∷ flat_map out_words s.outs in
    (λ z. on_past (wants_past f (length r.wants) (length q.wants) (append_assoc (flat_map want_words r.wants) (outs r) ys z) (append_assoc (flat_map want_words q.wants) (outs q) ns z)) all_outs_past)
    ∙ ap (λ x. on_past x all_outs_past) (wants_past_lem f r.wants q.wants (outs r ++ ys) (outs q ++ ns))
    ∙ on_ends (same_list same_want (drop_field f r.wants) q.wants) _ _ all_outs_past
    ∙ ap (λ x. cond (same_list same_want (drop_field f r.wants) q.wants) x None) (all_outs_past_lem r.outs q.outs ys ns)
    ∙ cond_and (same_list same_want (drop_field f r.wants) q.wants) _ (Some (ys, ns))

if_ends : (t : Bool) (ys ns : List ℕ) (g : List ℕ → List ℕ → Bool) → if_past (ends t ys ns) g ≡ (t && g ys ns)
if_ends true ys ns g = refl
if_ends false ys ns g = refl

pub same_from_lem : (f k : ℕ) (y n : Table) → length y ≤ k → same_from f k (encode y) (encode n) ≡ same_list same_rule (without f y) n
unfolding same_list without dropped
same_from_lem f k [] [] le = refl
same_from_lem f k [] (q ∷ n) le = refl
same_from_lem f zero (r ∷ y) n le = absurd (omega arith)
same_from_lem f (suc k) (r ∷ y) [] le = refl
same_from_lem f (suc k) (r ∷ y) (q ∷ n) le =
    ap (λ x. if_past x (same_from f k)) (rule_past_lem f r q (encode y) (encode n)) ∙ if_ends (same_rule (record { wants = drop_field f r.wants; outs = r.outs }) q) _ _ (same_from f k)
    ∙ ap (λ b. same_rule (record { wants = drop_field f r.wants; outs = r.outs }) q && b) (same_from_lem f k y n (omega arith))

-- a table has no more rules than words
pub rules_short : (t : Table) → length t ≤ length (encode t)
rules_short [] = omega arith
rules_short (r ∷ t) =
    omega (arith, length-append (flat_map want_words r.wants) (length r.outs ∷ flat_map out_words r.outs), length-append (rule_words r) (encode t), rules_short t)
