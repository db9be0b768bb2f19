-- What plans, and plans that are being built, stand for.
--   texts_of p   the texts of a plan, by switch
--   plan_of p    the plan in the run's words
--   slots_of b   the texts that a builder has
--   Says ..     a call's answer is what the definition gives, unless memory is wanting
use Rattle.std.specs.Prelude.{◌≡◌, ℕ, ◌⊎◌, List, [], map, Ok, Err, vec_items, Option, Result, slice_index_or}
use Rattle.std.specs.Option.{option_map}
use Rattle.octets.specs.declared.fault.Fault.{Fault}
use Rattle.octets.specs.declared.fault.Fault.TheVariants.{Memory}
use Rattle.octets.specs.Faults.{number}
use Rattle.octets.specs.Parse.{Got, Read, Bad}
use Rattle.packet.specs.Table.{Table}
use Rattle.text.specs.declared.node.Node.{Node}
use Rattle.text.specs.Trees.{meaning}
use Rattle.run.specs.Net as net
use Rattle.plan.specs.declared.part.Part.{Part}
use Rattle.plan.specs.declared.plans.Plan.{Plan}
use Rattle.plan.specs.declared.builder.Builder.{Builder}
use Rattle.plan.specs.Parts.{text_in, rules_in}
use Rattle.plan.specs.Slots.{Slots}

abbrev pub texts_of : Plan → List (List Node)
texts_of p = map text_in (vec_items p.parts)

abbrev pub tables_of : Plan → List Table
tables_of p = map rules_in (vec_items p.parts)

-- a switch that isn't there has no nodes and no rules
abbrev pub plan_of : Plan → net.Plan
plan_of p = record { text = λ i. meaning (slice_index_or (texts_of p) i []); table = λ i. slice_index_or (tables_of p) i [] }

abbrev pub slot_of : Option Part → Option (List Node)
slot_of part = option_map text_in part

abbrev pub slots_of : Builder → Slots
slots_of b = map slot_of (vec_items b.parts)

-- `left` is what is left to read
abbrev pub Says : {X Y : Type 0} → (X → Y) → Result X Fault → List ℕ → Got Y → Type 0
Says f (Ok x) left got = Read (f x) left ≡ got
Says f (Err e) left got = (e ≡ Memory) ⊎ (Bad (number e) ≡ got)
