-- A switch that isn't there has no rules.
use Rattle.std.proofs.Common.{[], map, length, vec_items, sym, ap, ◌∙◌, arith}
use Rattle.std.proofs.lemmas.List.{length-map, get_or_past}
use Rattle.table.specs.Words.{rules_of, rules_from, sound_from}
use Rattle.plan.specs.Parts.{rules_in}
use Rattle.plan.proofs.plans.Plan.table.Goals as goal

pub returns-in-None : goal.returns-in-None
unfolding rules_from sound_from
returns-in-None c =
    let ps = vec_items c.args.self.now.parts in
    record { value = ap rules_of c.new.ensures.value ∙ sym (get_or_past (map rules_in ps) c.args.switch [] (omega (arith, length-map ps rules_in, ap length c.deref.ensures.value, c.from.ensures, c.in-None.ensures.lookup))) }
