-- What differ answers to two inputs.
--   Told a b out     the lines of the comparison of two policies
--   Answered, Rejected   the same of two inputs; the first one's fault counts before the second's
use Rattle.std.specs.Prelude.{◌≡◌, ℕ, ◌<◌, ◌⊎◌, List, None}
use Rattle.octets.specs.declared.fault.Fault.TheVariants.{Memory}
use Rattle.octets.specs.Faults.{number}
use Rattle.packet.specs.Packet.{Packet}
use Rattle.packet.specs.Policy.{Policy}
use Rattle.text.specs.Trees.{meaning}
use Rattle.notation.specs.declared.reader.Refusal.{Refusal}
use Rattle.notation.specs.Notation.{Outcome, Whole, Refused}
use Rattle.prescribed.specs.Fit.{fault_of}
use Rattle.compare.specs.Compared.{Everywhere, Smallest, NotCompared}
use Rattle.differ.specs.Lines.{same_text, difference_text}

pub record Difference (a b : Policy) (out : List ℕ) : Type 0 where
  pub packet : Packet
  pub first : List Packet
  pub second : List Packet
  pub smallest : Smallest a b packet first second
  pub lines : out ≡ difference_text packet first second

abbrev pub Told : Policy → Policy → List ℕ → Type 0
Told a b out = (fault_of a ≡ 0) × (fault_of b ≡ 0) × ((Everywhere a b × (out ≡ same_text)) ⊎ Difference a b out)

abbrev pub Answered : Outcome → Outcome → List ℕ → Type 0
Answered (Whole ns) (Whole ms) out = Told (meaning ns) (meaning ms) out
Answered (Whole ns) (Refused n line) out = ⊥
Answered (Refused n line) other out = ⊥

-- want of memory, or why a text does not fit
abbrev pub Misfit : Policy → Refusal → Type 0
Misfit a e = ((e.fault ≡ Memory) × (e.line ≡ None)) ⊎ ((0 < fault_of a) × (number e.fault ≡ fault_of a) × (e.line ≡ None))

abbrev pub Rejected : Outcome → Outcome → Refusal → Type 0
Rejected (Whole ns) (Whole ms) e = NotCompared (meaning ns) (meaning ms) e.fault × (e.line ≡ None)
Rejected (Whole ns) (Refused n line) e =
    (e.fault ≡ Memory)
    ⊎ (((0 < fault_of (meaning ns)) × (number e.fault ≡ fault_of (meaning ns)) × (e.line ≡ None))
    ⊎ ((fault_of (meaning ns) ≡ 0) × (number e.fault ≡ n) × (e.line ≡ line)))
Rejected (Refused n line) other e = (e.fault ≡ Memory) ⊎ ((number e.fault ≡ n) × (e.line ≡ line))
