-- Different outs of a leaf give different copies of its sample.
use Rattle.std.proofs.Common.{◌≡◌, List, map, length, sym, ap, ◌∙◌}
use mathlib.Core.List.Memᴰ
use mathlib.Core.List.{Memᴰ}
use Rattle.packet.specs.Policy.{Policy, copies}
use Rattle.packet.specs.Table.{Want, Setting, set_all}
use Rattle.prescribed.specs.Order.{less_out}
use Rattle.prescribed.specs.Table.{sample, changes, leaf}
use Rattle.prescribed.specs.Right.{OutsDiffer}
use Rattle.prescribed.proofs.Members.{all_member}
use Rattle.prescribed.proofs.Rising.{rising_same}
use Rattle.prescribed.proofs.Orders.{out_ordered}
use Rattle.prescribed.proofs.Alike.{length_copies}
use Rattle.prescribed.proofs.Changes.{changes_made}
use Rattle.prescribed.proofs.Sample.{length_sample}

module _ (a : Policy) (known : List Want) (o : List Setting) (m : Memᴰ o (leaf a known).outs) where
  -- an out is the changes that lead to the copy it gives
  out_is : o ≡ changes 0 (sample a known) (set_all o (sample a known))
  out_is =
      let r = sample a known in
      let from = Memᴰ.of_map (changes 0 r) (copies a r) ((rising_same less_out out_ordered (map (changes 0 r) (copies a r)) o).0 m) in
      let eight = all_member (λ s. length s ≡ 8) from.0 (copies a r) (length_copies a r (length_sample a known)) from.1 in
      let made = ap (λ l. set_all l r) (sym from.2) ∙ changes_made r from.0 (length_sample a known ∙ sym eight) in
      sym from.2 ∙ ap (changes 0 r) (sym made)

pub outs_differ : OutsDiffer
outs_differ a known o n h k e = out_is a known o h ∙ ap (changes 0 (sample a known)) e ∙ sym (out_is a known n k)
