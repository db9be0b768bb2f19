use Rattle.std.proofs.Common.{◌≡◌, rules, ap, ◌∙◌}
use Rattle.switch.specs.Holding.{held_in}
use Rattle.switch.proofs.Holds.{place_in, found, lies_found, placed_found}
use Rattle.switch.proofs.versions.Versions.place.Goals as goal

is : (c : goal.After-map) → c.map.result ≡ place_in (found c.args.version (held_in c.args.self.held))
is c = let mapped : c.map.result ≡ place_in c.find.result = search rules in mapped ∙ ap place_in c.find.ensures.value

pub returns-clause-within : goal.returns-clause-within
returns-clause-within c = placed_found c.args.version (held_in c.args.self.held) c.map.result (is c) c.args.self.places

pub returns-clause-cases : goal.returns-clause-cases
returns-clause-cases c = lies_found c.args.version (held_in c.args.self.held) c.map.result (is c)
