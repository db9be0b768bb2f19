-- What a maker leaves in the words that it is lent.
--   policy_of m     what the maker's text means
--   room a         how many words always suffice for the table of a
--   fault_by e     the fault that a refusal is told as
--   Makes a ..     what is answered and what is left, lent so many words
use Rattle.std.specs.Prelude.{◌≡◌, ℕ, ◌-◌, ◌*◌, ◌<◌, ◌≤◌, cond, List, ◌++◌, length, take, replicate, Ok, Err, Result, nat_lt}
use Rattle.octets.specs.Faults.{number}
use Rattle.octets.specs.declared.fault.Fault.{Fault}
use Rattle.octets.specs.declared.fault.Fault.TheVariants as faults
use Rattle.packet.specs.Policy.{Policy}
use Rattle.packet.specs.Table.{Right}
use Rattle.text.specs.Texts.{nodes_of}
use Rattle.text.specs.Trees.{meaning}
use Rattle.meaning.specs.Evaluators.{text_of}
use Rattle.prescribed.specs.Table.{pairs_of, table_of}
use Rattle.prescribed.specs.Fit.{product, fault_of}
use Rattle.table.specs.Words.{encode, Sound, rules_of}
use Rattle.maker.specs.Making.{rule_room}
use Rattle.maker.specs.declared.maker.Maker.{Maker}
use Rattle.maker.specs.declared.maker.NoTable.{NoTable}
use Rattle.maker.specs.declared.maker.NoTable.TheVariants.{Refused, Short}

abbrev pub policy_of : Maker → Policy
policy_of m = meaning (nodes_of (text_of m.evaluator))

-- none, where the product is too large for a table
abbrev pub room : Policy → ℕ
room a = cond (nat_lt 65536 (product (pairs_of a))) 0 (rule_room * product (pairs_of a))

abbrev pub fault_by : NoTable → Fault
fault_by (Refused f) = f
fault_by Short = faults.Memory

-- a table's words and then zeros; after a refusal zeros alone
abbrev pub Makes : Policy → ℕ → List ℕ → Result ℕ NoTable → Type 0
Makes a lent after (Ok n) =
    (room a ≤ lent) × (fault_of a ≡ 0) × (n ≡ length (encode (table_of a))) × (after ≡ encode (table_of a) ++ replicate (lent - n) 0)
Makes a lent after (Err (Refused f)) = (room a ≤ lent) × (number f ≡ fault_of a) × (0 < fault_of a) × (after ≡ replicate lent 0)
Makes a lent after (Err Short) = (lent < room a) × (after ≡ replicate lent 0)

-- and a switch that is handed those words treats every packet as the policy says
abbrev pub Handed : Policy → List ℕ → Result ℕ NoTable → Type 0
Handed a after (Ok n) = Sound (take n after) × (rules_of (take n after) ≡ table_of a) × Right a (rules_of (take n after))
Handed a after (Err e) = Unit {0}
