-- Whether all copies of one tree are among those of another.
use Rattle.std.proofs.Common.{◌∷◌, sym, ap, ◌∙◌}
use Rattle.std.proofs.lemmas.Bool.{true≢false}
use Rattle.trees.specs.Trees.{copies_by}
use Rattle.trees.specs.Nodes.{tree_at}
use Rattle.trees.specs.Stores.{nodes_of}
use Rattle.trees.proofs.Inserting.{also_copies}
use Rattle.trees.proofs.Agreeing.{none_copies, next_copies, all_none, all_miss, all_rest, all_like}
use Rattle.trees.proofs.store.Trees.+is_within.Goals as goal

pub returns-else-gives : goal.returns-else-gives
returns-else-gives t c =
    let ns = nodes_of c.args.self.now in
    let p = c.args.p.fields in
    let n = c.in-Also in
    record {
      test =
          all_miss c.gives.result c.apply.result.fields _ (copies_by (tree_at ns n.rest) p) _ c.if-gives.false
          (also_copies ns (tree_at ns c.args.s) n.out n.rest p n.ensures.tree ∙ ap (λ x. x ∷ copies_by (tree_at ns n.rest) p) (sym c.apply.ensures.value))
          (λ m. true≢false (sym (c.gives.ensures.test.1 m) ∙ c.if-gives.false));
    }

pub returns-in-Nothing : goal.returns-in-Nothing
returns-in-Nothing t c =
    let ns = nodes_of c.args.self.now in
    record { test = all_none _ _ (none_copies ns (tree_at ns c.args.s) c.args.p.fields c.in-Nothing.ensures.tree) }

pub returns-then-gives : goal.returns-then-gives
returns-then-gives t c =
    let ns = nodes_of c.args.self.now in
    let p = c.args.p.fields in
    let n = c.in-Also in
    record {
      test =
          all_rest c.is_within.result c.apply.result.fields _ (copies_by (tree_at ns n.rest) p) _
          (also_copies ns (tree_at ns c.args.s) n.out n.rest p n.ensures.tree ∙ ap (λ x. x ∷ copies_by (tree_at ns n.rest) p) (sym c.apply.ensures.value))
          (c.gives.ensures.test.0 c.if-gives.true) c.is_within.ensures.test;
    }

pub returns-in-Test : goal.returns-in-Test
returns-in-Test t c =
    let ns = nodes_of c.args.self.now in
    let p = c.args.p.fields in
    let n = c.in-Test in
    record {
      test =
          all_like c.is_within-in-Test.result _ (copies_by (tree_at ns c.next.result) p) _
          (next_copies ns (tree_at ns c.args.s) n.field n.value n.met n.unmet c.next.result c.field.result p n.ensures.tree
          c.field.ensures.value c.next.ensures.value)
          c.is_within-in-Test.ensures.test;
    }
