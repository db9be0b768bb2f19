use Rattle.std.proofs.Common.{◌≡◌, get_or, rules}
use Rattle.prescribed.specs.Table.{free}
use Rattle.text.specs.Texts.{nodes_of}
use Rattle.leaves.specs.Under.{marked, name_of}
use Rattle.leaves.proofs.Freed.{free_of_text, all_free}
use Rattle.leaves.proofs.sample.unnamed.Goals as goal

pub returns : goal.returns
returns c =
    let ns = nodes_of c.args.text.now in
    let items = c.from_fn.ensures.items in
    record {
      value =
          all_free ns c.from_fn.result items.long
          (λ f lt.
          let k = items.at f 0 lt in
          let e : get_or c.from_fn.result f 0 ≡ free f (marked name_of c.under-row.result c.nodes-nodes.result.now) = search rules in
          free_of_text ns _ _ c.under-row.ensures.marks c.nodes-nodes.ensures.value f _ e);
    }
