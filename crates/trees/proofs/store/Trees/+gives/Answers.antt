-- Whether a packet is among the copies of a tree.
use Rattle.std.proofs.Common.{◌∷◌, sym, ap, ◌∙◌}
use Rattle.std.proofs.lemmas.Bool.{true≢false}
use Rattle.std.proofs.lemmas.Slice.Eq.{bytes_eq-Decides}
use Rattle.trees.specs.Trees.{copies_by}
use Rattle.trees.specs.Nodes.{tree_at}
use Rattle.trees.specs.Stores.{nodes_of}
use Rattle.trees.proofs.Inserting.{also_copies}
use Rattle.trees.proofs.Agreeing.{none_copies, next_copies, mem_none, mem_here, mem_rest, mem_like}
use Rattle.trees.proofs.store.Trees.+gives.Goals as goal

pub returns-then-eq : goal.returns-then-eq
returns-then-eq t c =
    let ns = nodes_of c.args.self.now in
    let p = c.args.p.fields in
    let n = c.in-Also in
    record {
      test =
          mem_here c.eq.result c.args.c.fields c.apply.result.fields _ _ c.if-eq.true
          (also_copies ns (tree_at ns c.args.t) n.out n.rest p n.ensures.tree ∙ ap (λ x. x ∷ copies_by (tree_at ns n.rest) p) (sym c.apply.ensures.value))
          ((bytes_eq-Decides _ _).0 (sym c.eq.ensures ∙ c.if-eq.true));
    }

pub returns-in-Nothing : goal.returns-in-Nothing
returns-in-Nothing t c =
    let ns = nodes_of c.args.self.now in
    record { test = mem_none c.args.c.fields _ (none_copies ns (tree_at ns c.args.t) c.args.p.fields c.in-Nothing.ensures.tree) }

pub returns-else-eq : goal.returns-else-eq
returns-else-eq t c =
    let ns = nodes_of c.args.self.now in
    let p = c.args.p.fields in
    let n = c.in-Also in
    record {
      test =
          mem_rest c.gives.result c.args.c.fields c.apply.result.fields _ (copies_by (tree_at ns n.rest) p)
          (also_copies ns (tree_at ns c.args.t) n.out n.rest p n.ensures.tree ∙ ap (λ x. x ∷ copies_by (tree_at ns n.rest) p) (sym c.apply.ensures.value))
          (λ e. true≢false (sym ((bytes_eq-Decides _ _).1 e) ∙ sym c.eq.ensures ∙ c.if-eq.false)) c.gives.ensures.test;
    }

pub returns-in-Test : goal.returns-in-Test
returns-in-Test t c =
    let ns = nodes_of c.args.self.now in
    let p = c.args.p.fields in
    let n = c.in-Test in
    record {
      test =
          mem_like c.gives-in-Test.result c.args.c.fields _ (copies_by (tree_at ns c.next.result) p)
          (next_copies ns (tree_at ns c.args.t) n.field n.value n.met n.unmet c.next.result c.field.result p n.ensures.tree
          c.field.ensures.value c.next.ensures.value)
          c.gives-in-Test.ensures.test;
    }
