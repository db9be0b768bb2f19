-- The outs of the code as lists of settings.
--   settings_of o     the settings of one out
--   outs_of s         those of each out, one after the other
--   out_cmp o u       how outs are ordered: by their settings and the zeros behind them, and then by how many they are
--   LeafOuts a p r   r is the outs that the policy a gives the packet p, or is refused where it has too many copies
use Rattle.std.specs.Prelude.{◌≡◌, true, false, List, map, take, Ok, Err, Result}
use Rattle.std.specs.declared.cmp.Ordering.{Ordering}
use Rattle.std.specs.Cmp.Lexicographic.{slice_cmp}
use Rattle.std.specs.Ordering.{nat_cmp, ordering_then}
use Rattle.octets.specs.declared.fault.Fault.{Fault}
use Rattle.octets.specs.declared.fault.Fault.TheVariants as faults
use Rattle.packet.specs.Packet.{Packet}
use Rattle.packet.specs.Policy.{Policy, copies, overfull}
use Rattle.packet.specs.Pairs.{setting_of}
use Rattle.packet.specs.Table as tables
use Rattle.prescribed.specs.Order.{rising, less_out}
use Rattle.prescribed.specs.Table.{changes}
use Rattle.leaves.specs.declared.outs.Out.{Out}
use Rattle.leaves.specs.declared.outs.Outs.{Outs}
use Rattle.leaves.specs.Pairs.{pair_cmp}

abbrev pub settings_of : Out → List tables.Setting
settings_of o = map setting_of (take o.count o.settings)

abbrev pub outs_of : Outs → List (List tables.Setting)
outs_of s = map settings_of (take s.count s.outs)

abbrev pub out_cmp : Out → Out → Ordering
out_cmp o u = ordering_then (slice_cmp pair_cmp o.settings u.settings) (nat_cmp o.count u.count)

abbrev pub LeafOuts : Policy → Packet → Result Outs Fault → Type 0
LeafOuts a p (Ok s) = (overfull a p ≡ false) × (outs_of s ≡ rising less_out (map (changes 0 p) (copies a p)))
LeafOuts a p (Err fault) = (overfull a p ≡ true) × (fault ≡ faults.Copies)
