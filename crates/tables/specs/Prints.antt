-- What tables answers to an input.
--   Printed a out        the lines of the table of a
--   NotPrinted a f       why it has none
--   Answered, Rejected   the same of an input
use Rattle.std.specs.Prelude.{◌≡◌, ℕ, ◌<◌, ◌⊎◌, List, None}
use Rattle.octets.specs.declared.fault.Fault.{Fault}
use Rattle.octets.specs.declared.fault.Fault.TheVariants.{Memory}
use Rattle.octets.specs.Faults.{number}
use Rattle.packet.specs.Policy.{Policy}
use Rattle.text.specs.Trees.{meaning}
use Rattle.notation.specs.declared.reader.Refusal.{Refusal}
use Rattle.notation.specs.Notation.{Outcome, Whole, Refused}
use Rattle.prescribed.specs.Table.{table_of}
use Rattle.prescribed.specs.Fit.{fault_of}
use Rattle.table.specs.Lines.{table_text}

abbrev pub Printed : Policy → List ℕ → Type 0
Printed a out = (fault_of a ≡ 0) × (out ≡ table_text (table_of a))

abbrev pub NotPrinted : Policy → Fault → Type 0
NotPrinted a f = (f ≡ Memory) ⊎ ((number f ≡ fault_of a) × (0 < fault_of a))

abbrev pub Answered : Outcome → List ℕ → Type 0
Answered (Whole ns) out = Printed (meaning ns) out
Answered (Refused n line) out = ⊥

abbrev pub Rejected : Outcome → Refusal → Type 0
Rejected (Whole ns) e = NotPrinted (meaning ns) e.fault × (e.line ≡ None)
Rejected (Refused n line) e = (e.fault ≡ Memory) ⊎ ((number e.fault ≡ n) × (e.line ≡ line))
