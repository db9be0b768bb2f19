-- The copy, field by field.
use Rattle.std.proofs.Common.{refl, ◌∙◌, arith}
use Rattle.std.proofs.lemmas.List.{length-set}
use Rattle.trees.specs.Outs.{applied}
use Rattle.trees.proofs.Applied.{applied_more}
use Rattle.trees.proofs.out.Out.apply.Goals as goal

pub loop-field-init : goal.loop-field-init
unfolding applied
loop-field-init c = (refl, omega arith)

pub loop-field-preserved : goal.loop-field-preserved
loop-field-preserved c =
    let more = applied_more c.args.self.sets c.args.p.fields c.loop-field.field in
    let so = c.loop-field.invariant.0 in
    let new = c.unwrap_or.ensures in
    ((cc), length-set c.loop-field.p.fields c.loop-field.field c.unwrap_or.result ∙ c.loop-field.invariant.1)
