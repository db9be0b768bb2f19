use Rattle.std.proofs.Common.{◌≡◌, get_or, rules, ap, ◌∙◌}
use Rattle.text.specs.Nodes.{sort_of, same_sort}
use Rattle.text.specs.Texts.{drafted}
use Rattle.text.proofs.Sound.{fitting_past, fitting_at}
use Rattle.text.proofs.texts.Draft.has.Goals as goal

pub returns-in-None : goal.returns-in-None
returns-in-None c = record { value = fitting_past c.args.want _ c.args.k (search rules) }

pub returns-in-Some : goal.returns-in-Some
returns-in-Some c =
    let n = c.in-Some.n.now in
    let same : c.eq.result ≡ same_sort (sort_of n) c.args.want = search rules in
    let there : n ≡ get_or (drafted c.args.self.now) c.args.k n = search rules in
    record { value = same ∙ ap (λ m. same_sort (sort_of m) c.args.want) there ∙ fitting_at c.args.want _ c.args.k n (search rules) }
