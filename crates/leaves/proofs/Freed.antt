-- What is named depends only on which pairs there are, and so does the smallest value that isn't.
use Rattle.std.proofs.Common.{◌≡◌, ℕ, zero, suc, ◌+◌, ◌<◌, ◌≤◌, Bool, true, false, cond, ◌&&◌, ◌||◌, eqb, ◌⊎◌, List, [], ◌∷◌, ◌++◌, length, get_or, Option, None, Some, MatchOption, unwrap_or, sym, refl, ap, ◌∙◌, ⊎_elim, arith}
use mathlib.Core.List.{Memᴰ}
use Rattle.std.specs.List.{list_any, zip}
use Rattle.std.proofs.lemmas.List.{length-append, ext_get_or}
use Rattle.std.proofs.lemmas.Bool.{both_ways, false≢true, and_parts, or_cases, eqb-true, cond_both, cases_eq, cases_lt}
use Rattle.packet.specs.Packet.{Packet, field}
use Rattle.packet.specs.Policy.{Policy}
use Rattle.packet.specs.Table.{Want}
use Rattle.text.specs.declared.node.Node.{Node}
use Rattle.text.specs.declared.node.Node.TheVariants.{Always, Is, Both, Either, Not, Keep, Put, And, Then}
use Rattle.text.specs.Trees.{meaning}
use Rattle.prescribed.specs.Table.{tested_in, put_in, names, free_from, free, unnamed}
use Rattle.prescribed.proofs.Free.{named, free_unnamed}
use Rattle.prescribed.proofs.Members.{SameElements}
use Rattle.leaves.specs.Under.{one, name_of, marked, Under}

pub named_there : (f x : ℕ) (ws : List Want) → names f x ws ≡ true → Memᴰ (record { at = f; value = x }) ws
unfolding names
named_there f x [] h = absurd (false≢true h)
named_there f x (w ∷ ws) h =
    ⊎_elim
    (λ k. let p = and_parts (eqb w.at f) (eqb w.value x) k in
    let e = sym (eqb-true w.at f p.0) in
    let d = sym (eqb-true w.value x p.1) in
    Memᴰ.head (λ i. record { at = e i; value = d i }))
    (λ k. Memᴰ.tail (named_there f x ws k))
    (or_cases (eqb w.at f && eqb w.value x) (names f x ws) h)

-- two tests of which each passes where the other does
both_same : (b c : Bool) → (b ≡ true → c ≡ true) → (c ≡ true → b ≡ true) → b ≡ c
both_same true c to from = sym (to refl)
both_same false true to from = from refl
both_same false false to from = refl

pub names_same : (f x : ℕ) (ws vs : List Want) → SameElements ws vs → names f x ws ≡ names f x vs
names_same f x ws vs h =
    let w : Want = record { at = f; value = x } in
    both_same (names f x ws) (names f x vs) (λ e. named w vs ((h w).0 (named_there f x ws e))) (λ e. named w ws ((h w).1 (named_there f x vs e)))

pub same_names : (ws vs : List Want) → ((f x : ℕ) → names f x ws ≡ names f x vs) → SameElements ws vs
same_names ws vs h w = (
  λ m. named_there w.at w.value vs (sym (h w.at w.value) ∙ named w ws m),
  λ m. named_there w.at w.value ws (h w.at w.value ∙ named w vs m),
)

-- the free value is the least that isn't named
free_least : (f : ℕ) (ws : List Want) (n x y : ℕ) → x ≤ y → names f y ws ≡ false → free_from n f x ws ≤ y
unfolding free_from
free_least f ws zero x y le h = le
free_least f ws (suc n) x y le h =
    cond_both (names f x ws) _ _ (λ z. z ≤ y)
    (λ e. ⊎_elim (λ d. absurd (both_ways (names f y ws) h (ap (λ z. names f z ws) (sym d) ∙ e))) (λ ne. free_least f ws n (x + 1) y (omega arith) h) (cases_eq x y))
    (λ e. le)

pub free_same : (f : ℕ) (ws vs : List Want) → ((x : ℕ) → names f x ws ≡ names f x vs) → free f ws ≡ free f vs
free_same f ws vs h =
    omega (
      arith,
      free_least f ws (length ws) 0 (free f vs) (omega arith) (h (free f vs) ∙ free_unnamed f vs),
      free_least f vs (length vs) 0 (free f ws) (omega arith) (sym (h (free f ws)) ∙ free_unnamed f ws),
    )

free_upto : (f : ℕ) (ws : List Want) (n x : ℕ) → free_from n f x ws ≤ x + n
unfolding free_from
free_upto f ws zero x = omega arith
free_upto f ws (suc n) x = cond_both (names f x ws) _ _ (λ y. y ≤ x + suc n) (λ e. omega (arith, free_upto f ws n (x + 1))) (λ e. omega arith)

-- the first of n values that isn't named, where there are more values than pairs
pub free_found : (f : ℕ) (ws : List Want) (n : ℕ) (r : Option ℕ) → length ws < n →
    MatchOption r ((k : ℕ) → 0 ≤ k → k < n → names f k ws ≡ true) (λ i. (0 ≤ i) × (i < n) × (names f i ws ≡ false) × ((k : ℕ) → 0 ≤ k → k < i → names f k ws ≡ true)) →
    unwrap_or r 0 ≡ free f ws
free_found f ws n None lt h =
    absurd (both_ways (names f (free f ws) ws) (free_unnamed f ws) (h (free f ws) (omega arith) (omega (arith, free_upto f ws (length ws) 0))))
free_found f ws n (Some i) lt h =
    ⊎_elim
    (λ l. absurd (both_ways (names f (free f ws) ws) (free_unnamed f ws) (h.3 (free f ws) (omega arith) l)))
    (λ ge. omega (arith, free_least f ws (length ws) 0 i (omega arith) h.2))
    (cases_lt (free f ws) i)

names_append : (f x : ℕ) (ws vs : List Want) → names f x (ws ++ vs) ≡ (names f x ws || names f x vs)
unfolding names
names_append f x [] vs = refl
names_append f x (w ∷ ws) vs =
    ap (λ b. (eqb w.at f && eqb w.value x) || b) (names_append f x ws vs)
    ∙ elim (eqb w.at f && eqb w.value x) as (λ b. (b || (names f x ws || names f x vs)) ≡ ((b || names f x ws) || names f x vs)) [ true ↦ refl | false ↦ refl ]

-- a marked node names it
pub names_any : (f x : ℕ) (row : List Bool) (ns : List Node) → names f x (marked name_of row ns) ≡ list_any (λ q. q.1 && names f x (name_of q.0)) (zip ns row)
unfolding marked names
names_any f x [] [] = refl
names_any f x [] (n ∷ ns) = refl
names_any f x (b ∷ row) [] = refl
names_any f x (b ∷ row) (n ∷ ns) =
    names_append f x (cond b (name_of n) []) (marked name_of row ns)
    ∙ (λ i. own b i || names_any f x row ns i)
  where
    own : (c : Bool) → names f x (cond c (name_of n) []) ≡ (c && names f x (name_of n))
    own true = refl
    own false = refl

pub names_few : (row : List Bool) (ns : List Node) → length (marked name_of row ns) ≤ length ns
unfolding marked
names_few [] ns = omega arith
names_few (b ∷ row) [] = omega arith
names_few (b ∷ row) (n ∷ ns) = omega (arith, length-append (cond b (name_of n) []) (marked name_of row ns), names_few row ns, at_most b n)
  where
    of_node : (m : Node) → length (name_of m) ≤ 1
    of_node Always = omega arith
    of_node (Is f x) = omega arith
    of_node (Both a c) = omega arith
    of_node (Either a c) = omega arith
    of_node (Not a) = omega arith
    of_node (Keep a) = omega arith
    of_node (Put f x) = omega arith
    of_node (And a c) = omega arith
    of_node (Then a c) = omega arith

    at_most : (c : Bool) (m : Node) → length (cond c (name_of m) []) ≤ 1
    at_most true m = of_node m
    at_most false m = omega arith

-- what one node names
one_named : (f x g y : ℕ) → names f x (one g y) ≡ (eqb g f && eqb y x)
unfolding names
one_named f x g y = elim (eqb g f && eqb y x) as (λ b. (b || false) ≡ b) [ true ↦ refl | false ↦ refl ]

pub has_one : (f x : ℕ) (n : Node) (g y : ℕ) → (n ≡ Is g y) ⊎ (n ≡ Put g y) → names f x (name_of n) ≡ (eqb g f && eqb y x)
has_one f x n g y h =
    ⊎_elim (λ e. ap (λ m. names f x (name_of m)) e ∙ one_named f x g y) (λ e. ap (λ m. names f x (name_of m)) e ∙ one_named f x g y) h

pub has_none : (f x : ℕ) (n : Node) → ((g y : ℕ) → n ≡ Is g y → ⊥) → ((g y : ℕ) → n ≡ Put g y → ⊥) → names f x (name_of n) ≡ false
unfolding names
has_none f x Always a b = refl
has_none f x (Is g y) a b = absurd (a g y refl)
has_none f x (Both c d) a b = refl
has_none f x (Either c d) a b = refl
has_none f x (Not c) a b = refl
has_none f x (Keep c) a b = refl
has_none f x (Put g y) a b = absurd (b g y refl)
has_none f x (And c d) a b = refl
has_none f x (Then c d) a b = refl

-- the free value of the marked nodes is that of the text
abbrev pub free_of : List Node → ℕ → ℕ
free_of ns f = free f (tested_in (meaning ns) ++ put_in (meaning ns))

pub free_of_text : (ns ms : List Node) (row : List Bool) → Under ns row → ms ≡ ns → (f r : ℕ) → r ≡ free f (marked name_of row ms) → r ≡ free_of ns f
free_of_text ns ms row u e f r is =
    is ∙ ap (λ l. free f (marked name_of row l)) e ∙ free_same f (marked name_of row ns) (tested_in (meaning ns) ++ put_in (meaning ns)) (u.named f)

unnamed_at : (a : Policy) (f : ℕ) → f < 8 → field f (unnamed a) ≡ free f (tested_in a ++ put_in a)
unnamed_at a zero lt = refl
unnamed_at a (suc zero) lt = refl
unnamed_at a (suc (suc zero)) lt = refl
unnamed_at a (suc (suc (suc zero))) lt = refl
unnamed_at a (suc (suc (suc (suc zero)))) lt = refl
unnamed_at a (suc (suc (suc (suc (suc zero))))) lt = refl
unnamed_at a (suc (suc (suc (suc (suc (suc zero)))))) lt = refl
unnamed_at a (suc (suc (suc (suc (suc (suc (suc zero))))))) lt = refl
unnamed_at a (suc (suc (suc (suc (suc (suc (suc (suc f)))))))) lt = absurd (omega arith)

-- eight free values are the packet
pub all_free : (ns : List Node) (p : Packet) → length p ≡ 8 → ((f : ℕ) → f < 8 → get_or p f 0 ≡ free_of ns f) → p ≡ unnamed (meaning ns)
all_free ns p long h = ext_get_or 0 p (unnamed (meaning ns)) long (λ f lt. h f (omega arith) ∙ sym (unnamed_at (meaning ns) f (omega arith)))
