use Rattle.std.proofs.Common.{Some, sym, ◌∙◌, rules}
use Rattle.std.proofs.lemmas.Slice.Eq.{bytes_eq-Decides}
use Rattle.std.proofs.lemmas.Bool.{both_ways, not-true, not-false}
use Rattle.maker.proofs.Steps.{words_same, words_other, words_out, words_end}
use Rattle.maker.proofs.compare.words_past.Goals as goal

pub returns-in_err-front : goal.returns-in_err-front
returns-in_err-front c = let h = words_out c.args.count c.args.ys.now c.args.ns.now c.in_err-front.ensures.cases in record { value = search rules }

pub returns-in_err-same : goal.returns-in_err-same
returns-in_err-same c = let h = words_end c.args.count c.args.ys.now c.args.ns.now c.in_err-same.ensures.cases in record { value = search rules }

pub returns-then-ne : goal.returns-then-ne
returns-then-ne c =
    let y = c.in_ok-front.ensures.cases in
    let n = c.in_ok-same.ensures.cases in
    record {
      value =
          words_other c.args.count c.args.ys.now c.args.ns.now y.0 n.0
          (λ e. both_ways _ (not-true _ (sym c.if-ne.ensures)) ((bytes_eq-Decides c.in_ok-front.front.now c.in_ok-same.same.now).1 (y.1 ∙ e ∙ sym n.1)));
    }

pub returns : goal.returns
returns c =
    let y = c.in_ok-front.ensures.cases in
    let n = c.in_ok-same.ensures.cases in
    let same = (bytes_eq-Decides c.in_ok-front.front.now c.in_ok-same.same.now).0 (not-false _ (sym c.if-ne.ensures)) in
    record { value = (λ i. Some (y.2 i, n.2 i)) ∙ words_same c.args.count c.args.ys.now c.args.ns.now y.0 n.0 (sym y.1 ∙ same ∙ n.1) }
