use Rattle.std.proofs.Common.{◌≡◌, length, get_or, rules, ap, ◌∙◌, arith}
use Rattle.text.specs.Nodes.{sort_of, same_sort}
use Rattle.text.specs.Texts.{nodes_of}
use Rattle.text.specs.declared.node.Node.TheVariants.{Always}
use Rattle.text.specs.declared.node.Sort.TheVariants.{Test}
use Rattle.text.proofs.Sound.{fitting_past, fitting_at}
use Rattle.meaning.proofs.evaluator.calls.is_test.Goals as goal

pub returns-in_default : goal.returns-in_default
returns-in_default c = let h = c.in_default.ensures.lookup in record { value = fitting_past Test _ c.args.k (omega (arith, h.3, ap length c.nodes.ensures.value)) }

pub returns : goal.returns
returns c =
    let h = c.in-Some.ensures.lookup in
    let ns = nodes_of c.args.text.now in
    let same : c.eq.result ≡ same_sort c.sort.result Test = search rules in
    record {
      value =
          same ∙ ap (λ s. same_sort s Test) (c.sort.ensures.value ∙ ap sort_of (h.3.1 Always) ∙ ap (λ l. sort_of (get_or l c.args.k Always)) c.nodes.ensures.value)
          ∙ fitting_at Test ns c.args.k Always (omega (arith, h.3.0, ap length c.nodes.ensures.value));
    }
