-- A text that fits goes into its place.
use Rattle.std.proofs.Common.{◌≡◌, true, [], map, set, Some, vec_items, sym, refl, ap, ◌∙◌}
use Rattle.std.proofs.lemmas.List.{map-set}
use Rattle.octets.specs.Parse.{Read}
use Rattle.text.specs.Texts.{nodes_of}
use Rattle.text.specs.Trees.{meaning}
use Rattle.prescribed.specs.Fit.{fault_of}
use Rattle.plan.specs.Slots.{free}
use Rattle.plan.specs.Views.{slot_of}
use Rattle.plan.proofs.Placing.{granted, line_put, fits_put}
use Rattle.plan.proofs.builder.Builder.put.Goals as goal

pub returns-clause-value : goal.returns-clause-value
returns-clause-value c =
    let ps = vec_items c.args.self.now.parts in
    let ns = nodes_of c.args.text in
    let i = c.args.switch in
    let is = c.in_ok-part.ensures.cases in
    let may : free (map slot_of ps) i ≡ true = granted _ c.in_ok-claim.ensures.value in
    let fit : fault_of (meaning ns) ≡ 0 = ap (λ l. fault_of (meaning l)) (sym is) ∙ c.in_ok-part.part.fits in
    ap (λ k. Read (map slot_of (set ps k (Some c.in_ok-part.part))) []) c.from.ensures
    ∙ ap (λ l. Read l []) (map-set slot_of ps i (Some c.in_ok-part.part) ∙ ap (λ l. set (map slot_of ps) i (Some l)) is)
    ∙ sym (line_put (map slot_of ps) i (λ q. Read ns q) [] ns [] may refl ∙ fits_put (map slot_of ps) i ns [] fit)
