-- The tree of a table: one out more, one want more, one rule more.
use Rattle.std.proofs.Common.{◌≡◌, ℕ, ◌<◌, Bool, true, false, cond, ◌&&◌, eqb, List, [], ◌∷◌, length, sym, refl, ap, ◌∙◌, arith, ne_eqb, eqb-true}
use borrow.Author.Tests.{eqb-false}
use Rattle.std.proofs.lemmas.Bool.{cond-true, cond-false}
use Rattle.packet.specs.Packet.{Packet, field}
use Rattle.packet.specs.Table.{Want, Setting, Rule, Table, meets, meets_all, set_all, outputs, decided}
use Rattle.packet.proofs.Sets.{once_same_set}
use Rattle.trees.specs.declared.node.Node.{Node}
use Rattle.trees.specs.declared.node.Node.TheVariants.{Nothing, Also, Test}
use Rattle.trees.specs.declared.out.Out as code
use Rattle.trees.specs.Outs.{applied}
use Rattle.trees.specs.Trees.{Tree, copies_by}
use Rattle.trees.specs.Nodes.{tree_of, trees, tree_at, Kept}
use Rattle.trees.specs.Stores.{Stands, Like, Gives, Sends}
use Rattle.trees.proofs.Alikes.{set_is, set_then, set_back}
use Rattle.trees.proofs.Inserting.{also_copies}
use Rattle.trees.proofs.Giving.{node_copies}
use Rattle.trees.proofs.Agreeing.{none_copies}

pub gives_none : (ns ms : List Node) (k : ℕ) (copies : Packet → List Packet) → Stands ms k (tree_of (trees ns) Nothing) → ((p : Packet) → copies p ≡ []) → Gives ms k copies
gives_none ns ms k copies s e = record { there = s.there; gives = λ p h. none_copies ns (tree_at ms k) p s.tree ∙ sym (e p) }

pub no_outputs : (os : List (List Setting)) (p : Packet) → os ≡ [] → outputs os p ≡ []
unfolding outputs
no_outputs os p e = ap (λ l. outputs l p) e

pub outs_one : (os more : List (List Setting)) (o : List Setting) (p : Packet) → os ≡ o ∷ more → set_all o p ∷ outputs more p ≡ outputs os p
unfolding outputs
outs_one os more o p is = ap (λ l. outputs l p) (sym is)

pub gives_also : (ms ls : List Node) (o : code.Out) (rest k : ℕ) (os more : List (List Setting)) (settings : List Setting) → os ≡ settings ∷ more → Gives ms rest (outputs more) →
    ((p : Packet) → length p ≡ 8 → applied o.sets p ≡ set_all settings p) → Stands ls k (tree_of (trees ms) (Also o rest)) → Gives ls k (outputs os)
gives_also ms ls o rest k os more settings is g a s =
    record {
      there = s.there;
      gives =
          λ p h.
          also_copies ms (tree_at ls k) o rest p s.tree
          ∙ ap (λ c. c ∷ copies_by (tree_at ms rest) p) (a p h)
          ∙ ap (λ l. set_all settings p ∷ l) (g.gives p h)
          ∙ outs_one os more settings p is;
    }

pub cond_low : (b : Bool) (m u j t : ℕ) → j ≡ cond b m u → m < t → u < t → j < t
cond_low true m u j t e lm lu = omega arith
cond_low false m u j t e lm lu = omega arith

pub beside_copies : (ns : List Node) (t : Tree) (g v m u f x : ℕ) (p : Packet) → t ≡ tree_of (trees ns) (Test g v m u) → g ≡ f → v ≡ x → (field f p ≡ x → ⊥) →
    copies_by (tree_at ns u) p ≡ copies_by t p
beside_copies ns t g v m u f x p e fs xs out =
    sym (node_copies ns t g v m u p e ∙ cond-false _ _ _ (ne_eqb (field g p) v (λ q. out (ap (λ k. field k p) (sym fs) ∙ q ∙ xs))))

-- a want in front of others
module _ (ws more : List Want) (w : Want) (p : Packet) (is : ws ≡ w ∷ more) where
  meets_on : meets w p ≡ true → meets_all ws p ≡ meets_all more p
  unfolding meets_all
  meets_on h = ap (λ l. meets_all l p) is ∙ ap (λ b. b && meets_all more p) h

  meets_off : meets w p ≡ false → meets_all ws p ≡ false
  unfolding meets_all
  meets_off h = ap (λ l. meets_all l p) is ∙ ap (λ b. b && meets_all more p) h

pub meets_none : (ws : List Want) (p : Packet) → ws ≡ [] → meets_all ws p ≡ true
unfolding meets_all
meets_none ws p is = ap (λ l. meets_all l p) is

-- the tree where the want is met, and where it is not
module _ (ns ms ls : List Node) (ws more : List Want) (w : Want) (is : ws ≡ w ∷ more) (met unmet there other inner k : ℕ) (kept : Kept ns ms)
    (low : other < length ns)
    (past : (p : Packet) → field w.at p ≡ w.value → copies_by (tree_at ns there) p ≡ copies_by (tree_at ns unmet) p)
    (beside : (p : Packet) → (field w.at p ≡ w.value → ⊥) → copies_by (tree_at ns other) p ≡ copies_by (tree_at ns unmet) p)
    (g : Gives ms inner (λ p. cond (meets_all more p) (copies_by (tree_at ns met) p) (copies_by (tree_at ns there) p)))
    (s : Stands ls k (tree_of (trees ms) (Test w.at w.value inner other))) where
  wanted_by : (p : Packet) → length p ≡ 8 → (b : Bool) → eqb (field w.at p) w.value ≡ b →
      copies_by (tree_at ls k) p ≡ cond (meets_all ws p) (copies_by (tree_at ns met) p) (copies_by (tree_at ns unmet) p)
  wanted_by p h true q =
      node_copies ms (tree_at ls k) w.at w.value inner other p s.tree
      ∙ cond-true _ _ _ q
      ∙ g.gives p h
      ∙ ap (λ l. cond (meets_all more p) (copies_by (tree_at ns met) p) l) (past p (eqb-true (field w.at p) w.value q))
      ∙ ap (λ b. cond b (copies_by (tree_at ns met) p) (copies_by (tree_at ns unmet) p)) (sym (meets_on ws more w p is q))
  wanted_by p h false q =
      node_copies ms (tree_at ls k) w.at w.value inner other p s.tree
      ∙ cond-false _ _ _ q
      ∙ ap (λ t. copies_by t p) (kept.same other low)
      ∙ beside p (eqb-false (field w.at p) w.value q)
      ∙ sym (cond-false _ _ _ (meets_off ws more w p is q))

  pub gives_wanted : Gives ls k (λ p. cond (meets_all ws p) (copies_by (tree_at ns met) p) (copies_by (tree_at ns unmet) p))
  gives_wanted = record { there = s.there; gives = λ p h. wanted_by p h (eqb (field w.at p) w.value) refl }

-- a rule in front of others
module _ (t rest : Table) (r : Rule) (p : Packet) (is : t ≡ r ∷ rest) where
  decided_here : meets_all r.wants p ≡ true → decided t p ≡ r.outs
  unfolding decided
  decided_here h = ap (λ l. decided l p) is ∙ cond-true _ _ _ h

  decided_on : meets_all r.wants p ≡ false → decided t p ≡ decided rest p
  unfolding decided
  decided_on h = ap (λ l. decided l p) is ∙ cond-false _ _ _ h

pub decided_none : (t : Table) (p : Packet) → t ≡ [] → decided t p ≡ []
unfolding decided
decided_none t p is = ap (λ l. decided l p) is

pub gives_rule : (ms ls qs : List Node) (t others : Table) (r : Rule) (met rest k : ℕ) → t ≡ r ∷ others → Kept ms ls →
    Gives ms rest (λ p. outputs (decided others p) p) → Gives ls met (outputs r.outs) →
    Gives qs k (λ p. cond (meets_all r.wants p) (copies_by (tree_at ls met) p) (copies_by (tree_at ls rest) p)) →
    Gives qs k (λ p. outputs (decided t p) p)
gives_rule ms ls qs t others r met rest k is kept later outs g =
    record { there = g.there; gives = λ p h. g.gives p h ∙ by p h (meets_all r.wants p) refl }
  where
    by : (p : Packet) → length p ≡ 8 → (b : Bool) → meets_all r.wants p ≡ b →
        cond (meets_all r.wants p) (copies_by (tree_at ls met) p) (copies_by (tree_at ls rest) p) ≡ outputs (decided t p) p
    by p h true q = cond-true _ _ _ q ∙ outs.gives p h ∙ ap (λ l. outputs l p) (sym (decided_here t others r p is q))
    by p h false q =
        cond-false _ _ _ q ∙ ap (λ v. copies_by v p) (kept.same rest later.there) ∙ later.gives p h
        ∙ ap (λ l. outputs l p) (sym (decided_on t others r p is q))

pub sends_like : (ms ls : List Node) (t : Table) (raw k : ℕ) → Gives ms raw (λ p. outputs (decided t p) p) → Like ms ls raw k → Sends ls t k
sends_like ms ls t raw k g l =
    record {
      there = l.there;
      sends = λ p h. set_then (l.like p h) (set_then (set_is (g.gives p h)) (set_back (once_same_set (outputs (decided t p) p))));
    }
