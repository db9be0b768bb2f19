use Rattle.std.proofs.Common.{◌+◌, ◌++◌, length, drop, sym, ap, ◌∙◌, arith}
use Rattle.std.proofs.lemmas.List.{length-append}
use Rattle.packet.specs.Table.{Setting}
use Rattle.prescribed.specs.Table.{changes}
use Rattle.leaves.specs.Outs.{settings_of}
use Rattle.leaves.proofs.Changing.{field_kept, field_changed, fields_all}
use Rattle.leaves.proofs.outs.Out.changes.Goals as goal
use Rattle.leaves.proofs.outs.Out.changes.Goals.{then-p-f, else-p-f}

pub loop-f-init : goal.loop-f-init
loop-f-init c =
    let e = c.default-out.ensures in
    (omega (arith, ap length e), ap (λ l. l ++ changes 0 c.args.p.fields c.args.copy.fields) e)

pub loop-f-preserved : goal.loop-f-preserved
loop-f-preserved c =
    let p = c.args.p.fields in
    let q = c.args.copy.fields in
    let i = c.loop-f.f in
    let so_far = settings_of c.loop-f.out in
    let rest = changes (i + 1) (drop (i + 1) p) (drop (i + 1) q) in
    elim c.if-p-f.branch [
      | then-p-f w ↦
          let e = ap settings_of w.out-is ∙ w.push.ensures.value in (
            omega (arith, ap length e, length-append {A = Setting}, c.loop-f.invariant.0),
            ap (λ l. l ++ rest) e ∙ sym (field_changed p q i (omega arith) (omega arith) so_far w.if-p-f.true) ∙ c.loop-f.invariant.1,
          )
      | else-p-f w ↦
          let e = ap settings_of w.out-is in (
            omega (arith, ap length e, c.loop-f.invariant.0),
            ap (λ l. l ++ rest) e ∙ sym (field_kept p q i (omega arith) (omega arith) so_far w.if-p-f.false) ∙ c.loop-f.invariant.1,
          )
    ]

pub returns : goal.returns
returns c = record { value = sym (fields_all c.args.p.fields c.args.copy.fields c.loop-f.f _ (omega arith) (omega arith)) ∙ c.loop-f.invariant.1 }
