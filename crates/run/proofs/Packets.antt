-- Copies of packets are packets.
use Rattle.std.proofs.Common.{ℕ, zero, suc, ◌<◌, List, [], ◌∷◌, get_or, set, sym, refl, subst, ⊎_elim, length-set}
use mathlib.Core.List.Memᴰ
use mathlib.Core.List.{Memᴰ}
use Rattle.packet.specs.Packet.{Packet, IsPacket, put}
use Rattle.packet.specs.Policy.{Policy, keep, puts, and, then, holds, each, copies, InRange}
use Rattle.run.proofs.Lists.{by_test}

set_small : (p : Packet) (k x : ℕ) → x < 65536 → ((f : ℕ) → get_or p f 0 < 65536) → (f : ℕ) → get_or (set p k x) f 0 < 65536
set_small [] k x l h f = h f
set_small (y ∷ ys) zero x l h zero = l
set_small (y ∷ ys) zero x l h (suc f) = h (suc f)
set_small (y ∷ ys) (suc k) x l h zero = h 0
set_small (y ∷ ys) (suc k) x l h (suc f) = set_small ys k x l (λ n. h (suc n)) f

pub put_packet : (k x : ℕ) (p : Packet) → x < 65536 → IsPacket p → IsPacket (put k x p)
put_packet k x p l h = record { eight = simp length-set h.eight; small = set_small p k x l h.small }

each_packets : (f : Packet → List Packet) → ((p : Packet) → IsPacket p → (o : Packet) → Memᴰ o (f p) → IsPacket o) → (ps : List Packet) → ((p : Packet) → Memᴰ p ps → IsPacket p) →
    (o : Packet) → Memᴰ o (each f ps) → IsPacket o
unfolding each
each_packets f h [] g o m = elim m [ ]
each_packets f h (p ∷ ps) g o m =
    ⊎_elim (h p (g p (Memᴰ.head refl)) o) (each_packets f h ps (λ q z. g q (Memᴰ.tail z)) o) (Memᴰ.append_cases (f p) m)

pub copy_packet : (a : Policy) → InRange a → (p : Packet) → IsPacket p → (o : Packet) → Memᴰ o (copies a p) → IsPacket o
unfolding copies
copy_packet (keep a) r p h o m = by_test (λ xs. Memᴰ o xs → IsPacket o) (holds a p) (λ _ y. subst IsPacket (sym (Memᴰ.eq_of_singleton y)) h) (λ _ y. elim y [ ]) m
copy_packet (puts f x) r p h o m = subst IsPacket (sym (Memᴰ.eq_of_singleton m)) (put_packet f x p r h)
copy_packet (and a b) r p h o m = ⊎_elim (copy_packet a r.0 p h o) (copy_packet b r.1 p h o) (Memᴰ.append_cases (copies a p) m)
copy_packet (then a b) r p h o m = each_packets (copies b) (copy_packet b r.1) (copies a p) (copy_packet a r.0 p h) o m
