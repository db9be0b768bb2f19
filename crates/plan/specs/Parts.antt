-- What a part is made of.
--   text_in p      the nodes of its text
--   rules_in p     its table
--   Made, Unmade  the words of a policy's table; why there are none
use Rattle.std.specs.Prelude.{◌≡◌, ℕ, ◌<◌, ◌⊎◌, List, vec_items}
use Rattle.octets.specs.declared.fault.Fault.{Fault}
use Rattle.octets.specs.declared.fault.Fault.TheVariants.{Memory}
use Rattle.octets.specs.Faults.{number}
use Rattle.packet.specs.Policy.{Policy}
use Rattle.packet.specs.Table.{Table}
use Rattle.text.specs.declared.node.Node.{Node}
use Rattle.text.specs.Texts.{nodes_of}
use Rattle.prescribed.specs.Table.{table_of}
use Rattle.prescribed.specs.Fit.{fault_of}
use Rattle.table.specs.Words.{rules_of, Sound}
use Rattle.plan.specs.declared.part.Part.{Part}

abbrev pub text_in : Part → List Node
text_in p = nodes_of p.text

abbrev pub rules_in : Part → Table
rules_in p = rules_of (vec_items p.words)

pub record Made (a : Policy) (words : List ℕ) : Type 0 where
  pub fits : fault_of a ≡ 0
  pub sound : Sound words
  pub rules : rules_of words ≡ table_of a

-- for want of memory, or since the policy does not fit
abbrev pub Unmade : Policy → Fault → Type 0
Unmade a e = (e ≡ Memory) ⊎ ((number e ≡ fault_of a) × (0 < fault_of a))
