-- One out more in a set.
use Rattle.std.proofs.Common.{◌≡◌, ℕ, ◌<◌, List, ◌∷◌, length, sym, ap, subst}
use Rattle.packet.specs.Packet.{Packet, SameSet}
use Rattle.trees.specs.declared.node.Node.{Node}
use Rattle.trees.specs.declared.node.Node.TheVariants.{Also}
use Rattle.trees.specs.declared.out.Out as code
use Rattle.trees.specs.Outs.{applied}
use Rattle.trees.specs.Trees.{Tree, copies_by}
use Rattle.trees.specs.Nodes.{tree_of, trees, tree_at}
use Rattle.trees.specs.Stores.{Stands, Inserted}
use Rattle.trees.proofs.Alikes.{set_is, set_then, set_more, set_swap, set_twice}

-- the copies of a node by those of the trees that it is built from
pub also_copies : (ns : List Node) (t : Tree) (o : code.Out) (rest : ℕ) (p : Packet) → t ≡ tree_of (trees ns) (Also o rest) →
    copies_by t p ≡ applied o.sets p ∷ copies_by (tree_at ns rest) p
unfolding tree_of copies_by
also_copies ns t o rest p e = ap (λ u. copies_by u p) e

-- the out is there already
pub inserted_there : (ns : List Node) (t rest : ℕ) (o first : code.Out) → t < length ns → tree_at ns t ≡ tree_of (trees ns) (Also first rest) →
    o.sets ≡ first.sets → Inserted ns ns o.sets t t
inserted_there ns t rest o first h e same =
    record {
      there = h;
      like =
          λ p.
          let is = also_copies ns (tree_at ns t) first rest p e in
          let x = applied first.sets p in
          let xs = copies_by (tree_at ns rest) p in
          subst (λ l. SameSet l (applied o.sets p ∷ l)) (sym is) (subst (λ y. SameSet (x ∷ xs) (y ∷ (x ∷ xs))) (ap (λ s. applied s p) (sym same)) (set_twice x xs));
    }

-- it goes behind the first
pub inserted_behind : (ns ms ls : List Node) (t rest more k : ℕ) (o first : code.Out) → tree_at ns t ≡ tree_of (trees ns) (Also first rest) →
    Inserted ns ms o.sets rest more → Stands ls k (tree_of (trees ms) (Also first more)) → Inserted ns ls o.sets t k
inserted_behind ns ms ls t rest more k o first e i s =
    record {
      there = s.there;
      like =
          λ p.
          let x = applied first.sets p in
          let y = applied o.sets p in
          set_then (set_is (also_copies ms (tree_at ls k) first more p s.tree))
          (set_then (set_more x (i.like p))
          (set_then (set_swap x y (copies_by (tree_at ns rest) p)) (set_more y (set_is (sym (also_copies ns (tree_at ns t) first rest p e))))));
    }

-- it goes in front
pub inserted_front : (ns ms : List Node) (t k : ℕ) (o : code.Out) → Stands ms k (tree_of (trees ns) (Also o t)) → Inserted ns ms o.sets t k
inserted_front ns ms t k o s = record { there = s.there; like = λ p. set_is (also_copies ns (tree_at ms k) o t p s.tree) }
