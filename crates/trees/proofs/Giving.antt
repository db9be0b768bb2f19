-- What trees do where a field has a value; a test, and one that is left out.
use Rattle.std.proofs.Common.{◌≡◌, ℕ, ◌<◌, Bool, true, false, cond, eqb, List, ◌∷◌, length, sym, refl, ap, ◌∙◌, subst, arith, eqb-true}
use Rattle.std.proofs.lemmas.Bool.Decides.{same_from_decides, Decides-like, Decides-eqb}
use Rattle.packet.specs.Packet.{Packet, SameSet, field}
use Rattle.trees.specs.declared.node.Node.{Node}
use Rattle.trees.specs.declared.node.Node.TheVariants.{Also, Test}
use Rattle.trees.specs.declared.out.Out as code
use Rattle.trees.specs.Outs.{applied}
use Rattle.trees.specs.Trees.{Tree, test, copies_by, Alike}
use Rattle.trees.specs.Nodes.{tree_of, trees, tree_at, Kept}
use Rattle.trees.specs.Stores.{Stands, Inserted, Given, Tested, Like}
use Rattle.trees.proofs.Alikes.{set_all, set_is, set_then, set_back, set_more, set_by}
use Rattle.trees.proofs.Inserting.{also_copies}

-- the copies of a test
pub test_copies : (f x : ℕ) (m u : Tree) (p : Packet) → copies_by (test f x m u) p ≡ cond (eqb (field f p) x) (copies_by m p) (copies_by u p)
unfolding copies_by
test_copies f x m u p = refl

pub node_copies : (ns : List Node) (t : Tree) (f x m u : ℕ) (p : Packet) → t ≡ tree_of (trees ns) (Test f x m u) →
    copies_by t p ≡ cond (eqb (field f p) x) (copies_by (tree_at ns m) p) (copies_by (tree_at ns u) p)
unfolding tree_of copies_by
node_copies ns t f x m u p e = ap (λ s. copies_by s p) e

-- a tree that was there has the copies that it had
pub kept_copies : {ns ms : List Node} (k : ℕ) (p : Packet) → Kept ns ms → k < length ns → SameSet (copies_by (tree_at ms k) p) (copies_by (tree_at ns k) p)
kept_copies k p h l = set_is (ap (λ t. copies_by t p) (h.same k l))

pub eqb_swap : (a b : ℕ) → eqb a b ≡ eqb b a
eqb_swap a b = same_from_decides _ _ (Decides-eqb a b) (Decides-like _ sym sym (Decides-eqb b a))

-- one of two trees, by a test of the field that is known
pub given_chosen : (ns ms : List Node) (f x v t m u k : ℕ) → tree_at ns t ≡ tree_of (trees ns) (Test f v m u) → Given ns ms f x (cond (eqb v x) m u) k →
    Given ns ms f x t k
given_chosen ns ms f x v t m u k e g =
    record {
      there = g.there;
      like =
          λ p l is.
          set_then (g.like p l is)
          (set_back (subst (λ ps. SameSet ps (copies_by (tree_at ns (cond (eqb v x) m u)) p)) (sym (node_copies ns (tree_at ns t) f v m u p e)) (chosen p is)));
    }
  where
    by : (p : Packet) (b : Bool) → SameSet (cond b (copies_by (tree_at ns m) p) (copies_by (tree_at ns u) p)) (copies_by (tree_at ns (cond b m u)) p)
    by p true = set_all _
    by p false = set_all _

    chosen : (p : Packet) → field f p ≡ x → SameSet (cond (eqb (field f p) v) (copies_by (tree_at ns m) p) (copies_by (tree_at ns u) p)) (copies_by (tree_at ns (cond (eqb v x) m u)) p)
    chosen p is =
        subst (λ b. SameSet (cond b (copies_by (tree_at ns m) p) (copies_by (tree_at ns u) p)) (copies_by (tree_at ns (cond (eqb v x) m u)) p))
        (sym (ap (λ y. eqb y v) is ∙ eqb_swap x v)) (by p (eqb v x))

-- one out more
pub given_also : (ns ms ls : List Node) (f x t rest less k : ℕ) (o kept : code.Out) → tree_at ns t ≡ tree_of (trees ns) (Also o rest) →
    Given ns ms f x rest less → Inserted ms ls kept.sets less k →
    ((p : Packet) → length p ≡ 8 → field f p ≡ x → applied kept.sets p ≡ applied o.sets p) → Given ns ls f x t k
given_also ns ms ls f x t rest less k o kept e g i w =
    record {
      there = i.there;
      like =
          λ p l is.
          set_then (i.like p)
          (set_then (set_is (ap (λ y. y ∷ copies_by (tree_at ms less) p) (w p l is)))
          (set_then (set_more (applied o.sets p) (g.like p l is)) (set_is (sym (also_copies ns (tree_at ns t) o rest p e)))));
    }

pub like_also : (ns ms ls : List Node) (t rest less k : ℕ) (o : code.Out) → tree_at ns t ≡ tree_of (trees ns) (Also o rest) →
    Like ns ms rest less → Inserted ms ls o.sets less k → Like ns ls t k
like_also ns ms ls t rest less k o e g i =
    record {
      there = i.there;
      like =
          λ p l. set_then (i.like p) (set_then (set_more (applied o.sets p) (g.like p l)) (set_is (sym (also_copies ns (tree_at ns t) o rest p e))));
    }

-- a test of another field, where both trees below it were replaced
module _ (ns ms ls qs : List Node) (f x t m u yea nay k : ℕ) (e : tree_at ns t ≡ tree_of (trees ns) (Test f x m u)) (a : Kept ns ms) (b : Kept ms ls)
    (um : u < length ns) (ym : yea < length ms) (r : Tested ls qs f x yea nay k) where
  both_alike : (p : Packet) → length p ≡ 8 → Alike (tree_at ms yea) (tree_at ns m) p → Alike (tree_at ls nay) (tree_at ms u) p → Alike (tree_at qs k) (tree_at ns t) p
  both_alike p l h g =
      set_then (r.like p l)
      (set_then (set_is (test_copies f x (tree_at ls yea) (tree_at ls nay) p))
      (set_then (set_by (eqb (field f p) x) (λ _. set_then (kept_copies yea p b ym) h) (λ _. set_then g (kept_copies u p a um)))
      (set_is (sym (node_copies ns (tree_at ns t) f x m u p e)))))

pub given_test : (ns ms ls qs : List Node) (g y f x t m u yea nay k : ℕ) → tree_at ns t ≡ tree_of (trees ns) (Test f x m u) → Kept ns ms → Kept ms ls → u < length ns →
    Given ns ms g y m yea → Given ms ls g y u nay → Tested ls qs f x yea nay k → Given ns qs g y t k
given_test ns ms ls qs g y f x t m u yea nay k e a b um h i r =
    record {
      there = r.there;
      like = λ p l is. both_alike ns ms ls qs f x t m u yea nay k e a b um h.there r p l (h.like p l is) (i.like p l is);
    }

pub like_test : (ns ms ls qs : List Node) (f x t m u yea nay k : ℕ) → tree_at ns t ≡ tree_of (trees ns) (Test f x m u) → Kept ns ms → Kept ms ls → u < length ns →
    Like ns ms m yea → Like ms ls u nay → Tested ls qs f x yea nay k → Like ns qs t k
like_test ns ms ls qs f x t m u yea nay k e a b um h i r =
    record {
      there = r.there;
      like = λ p l. both_alike ns ms ls qs f x t m u yea nay k e a b um h.there r p l (h.like p l) (i.like p l);
    }

-- a test that is kept as it is
pub tested_kept : (ns ms : List Node) (f x m u k : ℕ) → Stands ms k (tree_of (trees ns) (Test f x m u)) → Tested ns ms f x m u k
tested_kept ns ms f x m u k s =
    record {
      there = s.there;
      like = λ p l. set_is (node_copies ns (tree_at ms k) f x m u p s.tree ∙ sym (test_copies f x (tree_at ns m) (tree_at ns u) p));
    }

-- where the field has the value both trees do the same: one test less
pub tested_left : (ns ms ls : List Node) (f x m u yea there : ℕ) → Kept ns ms → Kept ms ls → u < length ns →
    Given ns ms f x m yea → Given ms ls f x u there → there ≡ yea → Tested ns ls f x m u u
tested_left ns ms ls f x m u yea there a b um h i same =
    record {
      there = omega (arith, a.longer, b.longer);
      like =
          λ p l.
          let was : SameSet (copies_by (tree_at ls u) p) (copies_by (tree_at ns u) p) = set_then (kept_copies u p b (omega (arith, a.longer))) (kept_copies u p a um) in
          set_then (choose (eqb (field f p) x) (λ e. at p l e was) (λ e. was)) (set_is (sym (test_copies f x (tree_at ns m) (tree_at ns u) p)));
    }
  where
    choose : (b : Bool) {ps qs rs : List Packet} → (b ≡ true → SameSet ps qs) → (b ≡ false → SameSet ps rs) → SameSet ps (cond b qs rs)
    choose true y n = y refl
    choose false y n = n refl

    at : (p : Packet) → length p ≡ 8 → eqb (field f p) x ≡ true → SameSet (copies_by (tree_at ls u) p) (copies_by (tree_at ns u) p) → SameSet (copies_by (tree_at ls u) p) (copies_by (tree_at ns m) p)
    at p l e was =
        let is : field f p ≡ x = eqb-true (field f p) x e in
        set_then was
        (set_then (set_back (kept_copies u p a um))
        (set_then (set_back (i.like p l is))
        (set_then (set_is (ap (λ j. copies_by (tree_at ls j) p) same)) (set_then (kept_copies yea p b h.there) (h.like p l is)))))

-- a test that is kept, of which one tree was replaced
pub tested_given : (ns ms ls qs : List Node) (f x m u yea k : ℕ) → Kept ns ms → Kept ms ls → u < length ns → Given ns ms f x m yea →
    Stands qs k (tree_of (trees ls) (Test f x yea u)) → Tested ns qs f x m u k
tested_given ns ms ls qs f x m u yea k a b um h s =
    record {
      there = s.there;
      like =
          λ p l.
          set_then (set_is (node_copies ls (tree_at qs k) f x yea u p s.tree))
          (set_then
          (set_by (eqb (field f p) x)
          (λ e. set_then (kept_copies yea p b h.there) (h.like p l (eqb-true (field f p) x e)))
          (λ e. set_then (kept_copies u p b (omega (arith, a.longer))) (kept_copies u p a um)))
          (set_is (sym (test_copies f x (tree_at ns m) (tree_at ns u) p))));
    }
