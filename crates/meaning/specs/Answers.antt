-- What is answered about the copies of a packet.
--   Told full ps r   the answer r is the packets ps, each once, unless `full` says that there are too many
--   Answered a p r   the same, for the copies that the policy a gives of the packet p
--   AnsweredEach a ps r   the same, for those that it gives of each of the packets ps, one after the other
--   HoldsAt ns k p r   what is answered about node k as a test, and
--   CopiesAt ns k p r  as a policy
use Rattle.std.specs.Prelude.{◌≡◌, ℕ, Bool, true, false, ◌||◌, List, length, Ok, Err, MatchBool, Result, nat_lt}
use Rattle.octets.specs.declared.fault.Fault.{Fault}
use Rattle.octets.specs.declared.fault.Fault.TheVariants as faults
use Rattle.packet.specs.Packet.{Packet, once}
use Rattle.packet.specs.Policy.{holds, Policy, each, copies, some, overfull}
use Rattle.packet.specs.Copies.{listing}
use Rattle.packet.specs.declared.copies.Copies.{Copies}
use Rattle.text.specs.declared.node.Node.{Node}
use Rattle.text.specs.declared.node.Sort.TheVariants as sorts
use Rattle.text.specs.Nodes.{fitting}
use Rattle.text.specs.Trees.{trees, test_at, policy_at}

abbrev pub Told : {n : ℕ} → Bool → List Packet → Result (Copies n) Fault → Type 0
Told full ps (Ok s) = (full ≡ false) × (listing s ≡ once ps)
Told full ps (Err fault) = (full ≡ true) × (fault ≡ faults.Copies)

abbrev pub Answered : {n : ℕ} → Policy → Packet → Result (Copies n) Fault → Type 0
Answered a p r = Told (overfull a p) (copies a p) r

abbrev pub AnsweredEach : {n : ℕ} → Policy → List Packet → Result (Copies n) Fault → Type 0
AnsweredEach a ps r = Told (nat_lt 16 (length (once (each (copies a) ps))) || some (overfull a) ps) (each (copies a) ps) r

-- refused where node k isn't there or is no test
abbrev pub HoldsAt : List Node → ℕ → Packet → Result Bool Fault → Type 0
HoldsAt ns k p r = MatchBool (fitting sorts.Test ns k) (r ≡ Ok (holds (test_at (trees ns) k) p)) (r ≡ Err faults.Operand)

-- refused where node k isn't there
abbrev pub CopiesAt : {n : ℕ} → List Node → ℕ → Packet → Result (Copies n) Fault → Type 0
CopiesAt ns k p r = MatchBool (nat_lt k (length ns)) (Answered (policy_at (trees ns) k) p r) (r ≡ Err faults.Operand)
