-- Packets that are sorted and each once are a rising list of the same set.
use Rattle.std.proofs.Common.{◌≡◌, ℕ, zero, suc, ◌<◌, Bool, List, [], ◌∷◌, length, get_or, Ordering, Less, sym, refl, ap, ◌∙◌, subst, ⊎_elim, arith}
use mathlib.Core.List.Memᴰ
use mathlib.Core.List.{Memᴰ}
use Rattle.std.specs.Cmp.Lexicographic.{slice_cmp}
use Rattle.std.specs.List.{Contains, dedup}
use Rattle.std.specs.List.Sorted.{IsPermutation, IsSorted, IsStrictlySortedBy}
use Rattle.std.specs.Ordering.{nat_cmp}
use Rattle.std.specs.Str.{bytes_eq}
use Rattle.std.proofs.lemmas.List.Kept.{Contains-dedup, Contains-from_dedup, IsStrictlySortedBy-dedup}
use Rattle.std.proofs.lemmas.List.Sorted.{Contains-permutation, IsPermutation-sym}
use Rattle.std.proofs.lemmas.Slice.Eq.{bytes_eq-Decides}
use Rattle.packet.specs.Packet.{Packet}
use Rattle.packet.specs.Table.{Setting, Table, outputs, decided, sent}
use Rattle.packet.specs.declared.packets.Packet as code
use Rattle.packet.specs.contracts.packets.PacketOrd.TheImpl.Laws as laws
use Rattle.packet.specs.contracts.packets.PacketEq.TheImpl.Laws as equal
use Rattle.packet.specs.Listed.{fields_of}
use Rattle.packet.proofs.Order.{ordered}
use Rattle.packet.proofs.Sets.{once_same_set}
use Rattle.prescribed.proofs.Changes.{length_set_all}
use Rattle.compare.specs.Sets.{Rising, Listed, Eight}

abbrev order : code.Packet → code.Packet → Ordering
order p q = slice_cmp nat_cmp p.fields q.fields

abbrev same : code.Packet → code.Packet → Bool
same p q = bytes_eq p.fields q.fields

-- packets of eight fields that rise by their order
rising_sorted : (ps : List code.Packet) → Eight (fields_of ps) → IsStrictlySortedBy order ps → Rising (fields_of ps)
unfolding Rising IsStrictlySortedBy
rising_sorted [] long s = tt
rising_sorted (p ∷ []) long s = tt
rising_sorted (p ∷ (q ∷ ps)) long s = (
  ordered p.fields q.fields Less (long p.fields (Memᴰ.head refl) ∙ sym (long q.fields (Memᴰ.tail (Memᴰ.head refl)))) (sym s.0.0),
  rising_sorted (q ∷ ps) (λ r m. long r (Memᴰ.tail m)) s.1,
)

-- packets of a list, and their fields
there : (ps : List code.Packet) (k : ℕ) (d p : code.Packet) → k < length ps → get_or ps k d ≡ p → Memᴰ p.fields (fields_of ps)
there [] k d p l e = absurd (omega arith)
there (q ∷ ps) zero d p l e = Memᴰ.head (ap (λ x. x.fields) (sym e))
there (q ∷ ps) (suc k) d p l e = Memᴰ.tail (there ps k d p (omega arith) e)

from : (ps : List code.Packet) (q : Packet) → Memᴰ q (fields_of ps) → (p : code.Packet) × Contains ps p × (q ≡ p.fields)
from [] q m = elim m [ ]
from (p ∷ ps) q m =
    ⊎_elim
    (λ e. (p, (0, omega arith, refl), e))
    (λ n. let r = from ps q n in (r.0, (suc r.1.0, omega (arith, r.1.1), r.1.2), r.2))
    (Memᴰ.cases_cons m)

kept : (ps qs : List code.Packet) → ((p : code.Packet) → Contains ps p → Contains qs p) → (q : Packet) → Memᴰ q (fields_of ps) → Memᴰ q (fields_of qs)
kept ps qs h q m =
    let r = from ps q m in
    let c = h r.0 r.1 in
    subst (λ x. Memᴰ x (fields_of qs)) (sym r.2) (there qs c.0 r.0 r.0 c.1 c.2)

module _ (ps sorted : List code.Packet) (long : Eight (fields_of ps)) (moved : IsPermutation ps sorted) (rises : IsSorted order sorted) where
  more : (p : code.Packet) → Contains ps p → Contains (dedup same sorted) p
  more p c = Contains-dedup equal.laws-law (λ x y e i. record { fields = (bytes_eq-Decides x.fields y.fields).0 e i }) sorted p (Contains-permutation ps sorted p moved c)

  less : (p : code.Packet) → Contains (dedup same sorted) p → Contains ps p
  less p c = Contains-permutation sorted ps p (IsPermutation-sym ps sorted moved) (Contains-from_dedup same sorted p c)

  pub listed_sorted : (set : List code.Packet) → set ≡ dedup same sorted → Listed (fields_of set) (fields_of ps)
  listed_sorted set e =
      subst (λ l. Listed (fields_of l) (fields_of ps)) (sym e)
      (record {
        same = λ q. (kept (dedup same sorted) ps less q, kept ps (dedup same sorted) more q);
        rising =
            rising_sorted (dedup same sorted) (λ q m. long q (kept (dedup same sorted) ps less q m))
            (IsStrictlySortedBy-dedup laws.total-law laws.matches_eq-law sorted rises);
      })

-- what a table sends of a packet
outputs_long : (n : ℕ) (os : List (List Setting)) (p : Packet) → length p ≡ n → (q : Packet) → Memᴰ q (outputs os p) → length q ≡ n
unfolding outputs
outputs_long n [] p e q m = elim m [ ]
outputs_long n (o ∷ os) p e q m =
    ⊎_elim (λ is. ap length is ∙ length_set_all o p ∙ e) (λ k. outputs_long n os p e q k) (Memᴰ.cases_cons m)

pub sent_eight : (t : Table) (p : Packet) → length p ≡ 8 → Eight (sent t p)
sent_eight t p e q m = outputs_long 8 (decided t p) p e q ((once_same_set (outputs (decided t p) p) q).0 m)
