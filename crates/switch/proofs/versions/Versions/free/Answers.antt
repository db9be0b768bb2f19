use Rattle.std.proofs.Common.{ℕ, not, rules, tests, refl, sym, ◌∙◌}
use Rattle.std.proofs.lemmas.Iterator.{YieldsList-from_range}
use Rattle.std.proofs.lemmas.Iterator.Search.{find_from_yields_List}
use Rattle.std.proofs.lemmas.Iterator.Adapters.{option_map_id}
use Rattle.switch.specs.Holding.{held_in, used}
use Rattle.switch.proofs.Holds.{free_found}
use Rattle.switch.proofs.versions.Versions.free.Goals as goal

pub returns : goal.returns
returns c =
    let xs = held_in c.args.self.held in
    record { cases = free_found xs c.find.result (sym (option_map_id c.find.result) ∙ find_from_yields_List {v = λ (p : ℕ). p} (λ p. not (used p xs)) _ _ c.find.result c.find.ensures.ran (YieldsList-from_range 0 2 2 refl refl) (λ x b q k. search (rules, tests))) }
