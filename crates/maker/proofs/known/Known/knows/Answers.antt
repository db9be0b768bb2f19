use Rattle.std.proofs.Common.{eqb, ◌∙◌, rules, tests}
use Rattle.std.proofs.lemmas.Iterator.{YieldsList-from_slice}
use Rattle.std.proofs.lemmas.Iterator.Search.{any_from_yields_List}
use Rattle.maker.proofs.Knowns.{known_any}
use Rattle.maker.proofs.known.Known.knows.Goals as goal

pub returns : goal.returns
returns c =
    let ps = c.args.self.now.wants.items in
    record {
      value =
          any_from_yields_List (λ p. eqb p.field c.args.f) c.any.new.self _ c.any.result c.any.ensures.ran (YieldsList-from_slice ps cc) (λ x b q k. search (rules, tests))
          ∙ known_any c.args.f ps;
    }
