use Rattle.std.proofs.Common.{rules, tests, eqb, sym, ◌∙◌}
use Rattle.std.proofs.lemmas.Iterator.Search.{find_from_yields_List}
use Rattle.std.proofs.lemmas.Iterator.{YieldsList-from_slice}
use Rattle.std.proofs.lemmas.Iterator.Consumers.{YieldsList-at, YieldsList-from_copied}
use Rattle.std.proofs.lemmas.Iterator.Adapters.{YieldsList-from_flatten, YieldsList-from_once, option_map_id}
use Rattle.std.specs.Option.{option_to_list}
use Rattle.switch.specs.declared.versions.Held.{Held}
use Rattle.switch.proofs.versions.Versions.find.Goals as goal

pub returns : goal.returns
returns c = record { value = let e = find_from_yields_List {v = λ (y : Held). y} (λ (x : Held). eqb x.version c.args.version) _ _ c.find.result c.find.ensures.ran (YieldsList-from_flatten _ _ (λ y. y) option_to_list (λ x j b. YieldsList-from_once x b.0) (YieldsList-at c.flatten.ensures.source (YieldsList-from_copied (YieldsList-at c.copied.ensures.source (YieldsList-from_slice c.args.self.held (cc))))) c.flatten.ensures.front c.flatten.ensures.back c.flatten.ensures.done) (λ x b q k. search (rules, tests)) in sym (option_map_id c.find.result) ∙ e }
