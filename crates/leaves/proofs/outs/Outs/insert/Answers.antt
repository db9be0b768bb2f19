use Rattle.std.proofs.Common.{◌+◌, map, take, set, ap, ◌∙◌, arith}
use Rattle.std.proofs.lemmas.List.{length-map, length-take}
use Rattle.prescribed.specs.Order.{less_out}
use Rattle.prescribed.proofs.Orders.{out_ordered}
use Rattle.leaves.specs.Outs.{settings_of, out_cmp}
use Rattle.leaves.proofs.Deciding.{out_total, out_less}
use Rattle.leaves.proofs.Placed.{found, not_found, shifted}
use Rattle.leaves.proofs.outs.Outs.insert.Goals as goal

pub returns-in-Err-clause-value : goal.returns-in-Err-clause-value
returns-in-Err-clause-value c = λ os is.
    let s = c.args.self.now in
    let o = c.args.o in
    let i = c.in-Err.i in
    let within = c.in-Err.ensures.bound in
    ap (λ l. map settings_of (take (s.count + 1) (set l i o))) c.copy_within.ensures.after
    ∙ ap (map settings_of) (shifted s.outs i s.count o within (omega (arith, c.requires.room, length-map (take s.count s.outs) settings_of, length-take s.count s.outs)))
    ∙ not_found less_out out_ordered settings_of out_cmp out_total out_less (take s.count s.outs) o os is i (omega (arith, within, length-take s.count s.outs)) c.in-Err.ensures.place

pub returns-in_default-clause-value : goal.returns-in_default-clause-value
returns-in_default-clause-value c = λ os is.
    let s = c.args.self.now in
    let within = c.in_default.ensures.bound in
    found less_out out_ordered settings_of out_cmp out_total out_less (take s.count s.outs) c.args.o os is c.in_default.field-0 (omega (arith, within, length-take s.count s.outs)) c.in_default.ensures.place
