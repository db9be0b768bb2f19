-- All names are marked.
use Rattle.std.proofs.Common.{◌∙◌, subst}
use Rattle.trees.specs.Search.{Marked}
use Rattle.trees.specs.Stores.{nodes_of}
use Rattle.trees.proofs.Marking.{marked_take}
use Rattle.trees.proofs.store.Trees.marks.Goals as goal

pub returns : goal.returns
returns c =
    record {
      made = (
        c.in_ok-marks.ensures.len,
        marked_take c.args.f (nodes_of c.args.self.now) c.mark.new.marks _ c.in_ok-marks.marks.len
            (c.mark.auto.marks ∙ c.as_mut_slice.ensures.len)
            (subst (λ xs. Marked c.args.f xs c.mark.new.marks) c.as_slice.ensures.keys c.mark.ensures.marked),
      );
    }
