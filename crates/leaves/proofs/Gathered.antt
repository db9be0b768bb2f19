-- The pairs of the marked nodes, put in order one by one, are those that the text tests, and their fields are 0 to 7.
use Rattle.std.proofs.Common.{◌≡◌, ℕ, ◌+◌, ◌<◌, ◌≤◌, Bool, true, false, cond, List, [], ◌∷◌, ◌++◌, length, get_or, take, vec_items, sym, refl, ap, ◌∙◌, subst, arith}
use mathlib.Core.List.{Memᴰ}
use Rattle.std.specs.List.{AllWithin, AllByRecursion}
use Rattle.std.proofs.ByRecursion.{All-append, All-get_or, All-map, all_from_every}
use Rattle.std.proofs.lemmas.List.{append-nil, get_or-map, length-map, take_all}
use Rattle.std.proofs.lemmas.Bool.{and_parts, leb-true}
use Rattle.packet.specs.Policy.{Policy}
use Rattle.packet.specs.Table.{Want}
use Rattle.text.specs.declared.node.Node.{Node}
use Rattle.text.specs.declared.node.Node.TheVariants.{Always, Is, Both, Either, Not, Keep, Put, And, Then}
use Rattle.text.specs.Nodes.{fits, sound}
use Rattle.text.specs.Trees.{meaning}
use Rattle.prescribed.specs.Order.{insert, rising, less_want}
use Rattle.prescribed.specs.Table.{tested_in, pairs_of}
use Rattle.prescribed.proofs.Members.{all_member}
use Rattle.prescribed.proofs.Orders.{want_ordered, pairs_tested}
use Rattle.prescribed.proofs.Rising.{rising_all}
use Rattle.packet.specs.Pairs.{want_of}
use Rattle.packet.specs.declared.pair.Pair.{Pair}
use Rattle.leaves.specs.declared.pairs.Pairs.{Pairs}
use Rattle.leaves.specs.Pairs.{wants_of, pairs_in}
use Rattle.leaves.specs.Under.{test_of, marked, Under}
use Rattle.leaves.proofs.Freed.{same_names}
use Rattle.leaves.proofs.Marking.{marked_more}
use Rattle.leaves.proofs.Placed.{rising_alike, rising_push}

-- the pairs of the first k nodes, and of one node more
module _ (row : List Bool) (ns : List Node) where
  abbrev pub pairs_to : ℕ → List Want
  pairs_to k = rising less_want (marked test_of row (take k ns))

  module _ (k : ℕ) (lt : k < length ns) where
    next : pairs_to (k + 1) ≡ rising less_want (marked test_of row (take k ns) ++ cond (get_or row k false) (test_of (get_or ns k Always)) [])
    next = ap (rising less_want) (marked_more test_of row ns k lt)

    pub pair_more : (f x : ℕ) → get_or row k false ≡ true → get_or ns k Always ≡ Is f x → pairs_to (k + 1) ≡ insert less_want (record { at = f; value = x }) (pairs_to k)
    pair_more f x m e =
        next ∙ (λ i. rising less_want (marked test_of row (take k ns) ++ cond (m i) (test_of (e i)) []))
        ∙ rising_push less_want want_ordered (marked test_of row (take k ns)) (record { at = f; value = x })

    none_more : (l : List Want) → l ≡ [] → rising less_want (marked test_of row (take k ns) ++ l) ≡ pairs_to k
    none_more l e = ap (λ v. rising less_want (marked test_of row (take k ns) ++ v)) e ∙ ap (rising less_want) (append-nil (marked test_of row (take k ns)))

    pub pair_unmarked : get_or row k false ≡ false → pairs_to (k + 1) ≡ pairs_to k
    pair_unmarked m = next ∙ none_more _ (ap (λ b. cond b (test_of (get_or ns k Always)) []) m)

    pub pair_other : ((f x : ℕ) → get_or ns k Always ≡ Is f x → ⊥) → pairs_to (k + 1) ≡ pairs_to k
    pair_other h = next ∙ none_more _ (nothing (get_or row k false) (get_or ns k Always) h)
      where
        nothing : (b : Bool) (n : Node) → ((f x : ℕ) → n ≡ Is f x → ⊥) → cond b (test_of n) [] ≡ []
        nothing false n a = refl
        nothing true Always a = refl
        nothing true (Is f x) a = absurd (a f x refl)
        nothing true (Both c d) a = refl
        nothing true (Either c d) a = refl
        nothing true (Not c) a = refl
        nothing true (Keep c) a = refl
        nothing true (Put f x) a = refl
        nothing true (And c d) a = refl
        nothing true (Then c d) a = refl

  pub pairs_all : (k : ℕ) → length ns ≤ k → Under ns row → pairs_to k ≡ pairs_of (meaning ns)
  pairs_all k le u =
      ap (λ l. rising less_want (marked test_of row l)) (take_all k ns le)
      ∙ rising_alike less_want want_ordered (marked test_of row ns) (tested_in (meaning ns)) (same_names (marked test_of row ns) (tested_in (meaning ns)) u.tested)

-- fields of sound nodes are 0 to 7
tests_low : (b : Bool) (done : List Node) (n : Node) → fits done n ≡ true → AllByRecursion (λ w. w.at ≤ 7) (cond b (test_of n) [])
tests_low false done n h = tt
tests_low true done Always h = tt
tests_low true done (Is f x) h = (leb-true f 7 h, tt)
tests_low true done (Both a c) h = tt
tests_low true done (Either a c) h = tt
tests_low true done (Not a) h = tt
tests_low true done (Keep a) h = tt
tests_low true done (Put f x) h = tt
tests_low true done (And a c) h = tt
tests_low true done (Then a c) h = tt

marked_low : (row : List Bool) (done ns : List Node) → sound done ns ≡ true → AllByRecursion (λ w. w.at ≤ 7) (marked test_of row ns)
unfolding marked sound
marked_low [] done ns h = tt
marked_low (b ∷ row) done [] h = tt
marked_low (b ∷ row) done (n ∷ ns) h =
    let p = and_parts (fits done n) (sound (done ++ n ∷ []) ns) h in
    All-append (λ w. w.at ≤ 7) (cond b (test_of n) []) (marked test_of row ns) (tests_low b done n p.0) (marked_low row (done ++ n ∷ []) ns p.1)

pub pairs_low : (row : List Bool) (ns ms : List Node) (xs : List Pair) (n : ℕ) → sound [] ms ≡ true → ms ≡ ns → n ≡ length xs → wants_of xs ≡ rising less_want (marked test_of row ns) → AllWithin (λ p. p.field ≤ 7) xs 0 n
pairs_low row ns ms xs n so e long is =
    let low = subst (λ l. AllByRecursion (λ w. w.at ≤ 7) l) (sym is) (rising_all less_want (λ w. w.at ≤ 7) (marked test_of row ns) (subst (λ l. AllByRecursion (λ w. w.at ≤ 7) (marked test_of row l)) e (marked_low row [] ms so))) in
    λ k d z lt. subst (λ w. w.at ≤ 7) (get_or-map want_of xs k d (want_of d) (omega arith)) (All-get_or (λ w. w.at ≤ 7) (wants_of xs) k (want_of d) (omega (arith, length-map xs want_of)) low)

-- so the fields that the text tests are 0 to 7
pub tested_low : (s : Pairs) (a : Policy) → pairs_in s ≡ pairs_of a → AllByRecursion (λ w. w.at < 8) (tested_in a)
tested_low s a e = from_members (tested_in a) (λ w m. all_member (λ v. v.at < 8) w (pairs_in s) low (subst (λ l. Memᴰ w l) (sym e) ((pairs_tested a w).1 m)))
  where
    low : AllByRecursion (λ w. w.at < 8) (pairs_in s)
    low =
        All-map (λ w. w.at < 8) want_of (vec_items s.items)
        (all_from_every (λ p. p.field < 8) (vec_items s.items) (λ k d z lt. omega (arith, s.low k d z (omega arith))))

    from_members : (ws : List Want) → ((w : Want) → Memᴰ w ws → w.at < 8) → AllByRecursion (λ w. w.at < 8) ws
    from_members [] h = tt
    from_members (w ∷ ws) h = (h w (Memᴰ.head refl), from_members ws (λ v m. h v (Memᴰ.tail m)))
