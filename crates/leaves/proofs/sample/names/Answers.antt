use Rattle.std.proofs.Common.{◌&&◌, sym, ◌∙◌, rules, tests}
use Rattle.std.proofs.lemmas.Iterator.{YieldsList-from_slice, YieldsList-from_zip}
use Rattle.std.proofs.lemmas.Iterator.Search.{any_from_yields_List}
use Rattle.prescribed.specs.Table.{names}
use Rattle.leaves.specs.Under.{name_of}
use Rattle.leaves.proofs.Freed.{names_any}
use Rattle.leaves.proofs.sample.names.Goals as goal

pub returns : goal.returns
returns c =
    let both = YieldsList-from_zip (YieldsList-from_slice c.args.nodes.now cc) (YieldsList-from_slice c.args.row.now cc) in
    record {
      value =
          any_from_yields_List (λ q. q.1 && names c.args.f c.args.x (name_of q.0)) c.any.new.self _ c.any.result c.any.ensures.ran both (λ x b q k. search (rules, tests))
          ∙ sym (names_any c.args.f c.args.x c.args.row.now c.args.nodes.now);
    }
