-- One copy more among the copies, and what is answered of a packet.
use Rattle.std.proofs.Common.{◌≡◌, ℕ, ◌+◌, ◌-◌, ◌<◌, ◌≤◌, List, map, length, get_or, take, Ok, Result, ap, ◌∙◌, subst, arith}
use Rattle.std.proofs.lemmas.List.{map_more, map_push}
use Rattle.std.proofs.lemmas.Bool.{lt-ltb}
use Rattle.std.proofs.lemmas.Bool.Decides.{when_true}
use Rattle.octets.specs.declared.fault.Fault.{Fault}
use Rattle.packet.specs.Packet as packets
use Rattle.packet.specs.Packet.{once}
use Rattle.packet.specs.Policy.{copies}
use Rattle.packet.specs.declared.packets.Packet.{Packet}
use Rattle.packet.proofs.Sets.{once_same_set}
use Rattle.text.specs.declared.node.Node.{Node}
use Rattle.text.specs.Trees.{trees, policy_at, meaning}
use Rattle.packet.specs.Copies.{listing}
use Rattle.packet.specs.declared.copies.Copies.{Copies}
use Rattle.meaning.specs.Answers.{Answered, CopiesAt}
use Rattle.packet.specs.Listed.{fields_of}
use Rattle.prescribed.specs.Order.{insert, rising, less_out}
use Rattle.prescribed.specs.Table.{changes}
use Rattle.prescribed.proofs.Members.{map_same}
use Rattle.prescribed.proofs.Orders.{out_ordered}
use Rattle.leaves.specs.declared.outs.Outs.{Outs}
use Rattle.leaves.specs.Outs.{outs_of, LeafOuts}
use Rattle.leaves.proofs.Placed.{rising_alike, rising_push}

-- the outs of the first copies, and those of one copy more

pub outs_more : (p : packets.Packet) (qs : List Packet) (i : ℕ) (d : Packet) → i < length qs →
    rising less_out (map (changes 0 p) (fields_of (take (i + 1) qs))) ≡ insert less_out (changes 0 p (get_or qs i d).fields) (rising less_out (map (changes 0 p) (fields_of (take i qs))))
outs_more p qs i d lt =
    ap (λ l. rising less_out (map (changes 0 p) l)) (map_more (λ q. q.fields) qs i d lt)
    ∙ ap (rising less_out) (map_push (changes 0 p) (fields_of (take i qs)) (get_or qs i d).fields)
    ∙ rising_push less_out out_ordered (map (changes 0 p) (fields_of (take i qs))) (changes 0 p (get_or qs i d).fields)

-- the last node is what the text means
pub last_answered : {n : ℕ} (ns : List Node) (k : ℕ) (p : packets.Packet) (r : Result (Copies n) Fault) → 1 ≤ length ns → k ≡ length ns - 1 → CopiesAt ns k p r → Answered (meaning ns) p r
last_answered ns k p r some e h = subst (λ j. Answered (policy_at (trees ns) j) p r) e (when_true _ _ (lt-ltb k (length ns) (omega arith)) h)

-- each copy once gives the same outs
pub leaf_given : {n : ℕ} (ns : List Node) (p : packets.Packet) (s : Copies n) (qs : List Packet) (o : Outs) → Answered (meaning ns) p (Ok s) →
    fields_of qs ≡ listing s → outs_of o ≡ rising less_out (map (changes 0 p) (fields_of qs)) → LeafOuts (meaning ns) p (Ok o)
leaf_given ns p s qs o h e is = (
  h.0,
  is ∙ ap (λ l. rising less_out (map (changes 0 p) l)) (e ∙ h.1)
      ∙ rising_alike less_out out_ordered (map (changes 0 p) (once (copies (meaning ns) p))) (map (changes 0 p) (copies (meaning ns) p))
      (map_same (changes 0 p) (once (copies (meaning ns) p)) (copies (meaning ns) p) (once_same_set (copies (meaning ns) p))),
)
