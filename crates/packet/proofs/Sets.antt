-- Lists of packets as sets: taking each packet once leaves the set as it is.
use Rattle.std.proofs.Common.{◌≡◌, Bool, true, false, cond, ◌⊎◌, List, [], ◌∷◌, sym, refl, ◌∙◌, inl, inr, ⊎_elim}
use mathlib.Core.List.Memᴰ
use mathlib.Core.List.{Memᴰ}
use Rattle.std.proofs.lemmas.Slice.Eq.{bytes_eq-Decides}
use Rattle.packet.specs.Packet.{Packet, same_packet, SameSet, others, once}

pub same_set_then : (ps qs rs : List Packet) → SameSet ps qs → SameSet qs rs → SameSet ps rs
same_set_then ps qs rs e f p = (λ m. (f p).0 ((e p).0 m), λ m. (e p).1 ((f p).1 m))

-- what is left behind a packet was there
others_there : (p q : Packet) (xs : List Packet) → Memᴰ q (others p xs) → Memᴰ q xs
unfolding others
others_there p q [] m = m
others_there p q (x ∷ xs) m =
    (elim (same_packet p x) as (λ b. Memᴰ q (cond b (others p xs) (x ∷ others p xs)) → Memᴰ q (x ∷ xs)) [
      | true ↦ λ n. Memᴰ.tail (others_there p q xs n)
      | false ↦ λ n. ⊎_elim (λ e. Memᴰ.head e) (λ k. Memᴰ.tail (others_there p q xs k)) (Memᴰ.cases_cons n)
    ]) m

-- a packet is the one left out, or is left
others_rest : (p q : Packet) (xs : List Packet) → Memᴰ q xs → (q ≡ p) ⊎ Memᴰ q (others p xs)
unfolding others
others_rest p q [] m = inr m
others_rest p q (x ∷ xs) m = step (same_packet p x) (bytes_eq-Decides p x).0 (Memᴰ.cases_cons m) (others_rest p q xs)
  where
    step : (b : Bool) → (b ≡ true → p ≡ x) → (q ≡ x) ⊎ Memᴰ q xs → (Memᴰ q xs → (q ≡ p) ⊎ Memᴰ q (others p xs)) →
        (q ≡ p) ⊎ Memᴰ q (cond b (others p xs) (x ∷ others p xs))
    step true h (inl e) more = inl (e ∙ sym (h refl))
    step true h (inr n) more = more n
    step false h (inl e) more = inr (Memᴰ.head e)
    step false h (inr n) more = ⊎_elim (λ e. inl e) (λ k. inr (Memᴰ.tail k)) (more n)

pub once_same_set : (ps : List Packet) → SameSet (once ps) ps
unfolding once
once_same_set [] q = (λ m. m, λ m. m)
once_same_set (p ∷ ps) q = (
  λ m. ⊎_elim (λ e. Memᴰ.head e) (λ n. Memᴰ.tail ((once_same_set ps q).0 (others_there p q (once ps) n))) (Memᴰ.cases_cons m),
  λ m. ⊎_elim
      (λ e. Memᴰ.head e)
      (λ n. ⊎_elim (λ e. Memᴰ.head e) (λ k. Memᴰ.tail k) (others_rest p q (once ps) ((once_same_set ps q).1 n)))
      (Memᴰ.cases_cons m),
)
