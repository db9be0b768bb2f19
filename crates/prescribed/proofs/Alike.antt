-- Packets that meet the same tests are treated alike.
use Rattle.std.proofs.Common.{◌≡◌, ℕ, Bool, true, false, cond, not, ◌&&◌, ◌||◌, eqb, List, [], ◌∷◌, ◌++◌, length, get_or, set, sym, refl, ap, ◌∙◌, subst, inl, inr, ⊎_elim, arith, length-set}
use mathlib.Core.List.Memᴰ
use mathlib.Core.List.{Memᴰ}
use Rattle.std.specs.List.{AllZip, AllByRecursion}
use Rattle.std.proofs.lemmas.List.{get_or-set_same, get_or-set_other, set_past}
use Rattle.std.proofs.lemmas.Bool.{cases_eq, cases_lt}
use Rattle.packet.specs.Packet.{Packet, field, put}
use Rattle.packet.specs.Policy.{Test, always, is, both, either, isnt, holds, Policy, keep, puts, and, then, copies, each}
use Rattle.packet.specs.Table.{Want, meets}
use Rattle.prescribed.specs.Table.{tested, tested_in, put_in}
use Rattle.prescribed.specs.Alike.{SameTests, AlikeAt, Alike, TreatedAlike}

-- lists related element by element: one after the other, and mapped
pub each_join : {A : Type 0} (R : A → A → Type 0) (xs ys vs ws : List A) → AllZip R xs ys → AllZip R vs ws → AllZip R (xs ++ vs) (ys ++ ws)
each_join R [] [] vs ws h k = k
each_join R [] (y ∷ ys) vs ws h k = absurd h
each_join R (x ∷ xs) [] vs ws h k = absurd h
each_join R (x ∷ xs) (y ∷ ys) vs ws h k = (h.0, each_join R xs ys vs ws h.1 k)

each_mapped : (R : Packet → Packet → Type 0) (f : Packet → List Packet) → ((p q : Packet) → R p q → AllZip R (f p) (f q)) →
    (ps qs : List Packet) → AllZip R ps qs → AllZip R (each f ps) (each f qs)
unfolding each
each_mapped R f h [] [] k = k
each_mapped R f h [] (q ∷ qs) k = absurd k
each_mapped R f h (p ∷ ps) [] k = absurd k
each_mapped R f h (p ∷ ps) (q ∷ qs) k = each_join R (f p) (f q) (each f ps) (each f qs) (h p q k.0) (each_mapped R f h ps qs k.1)

abbrev Within : List Want → List Want → Type 0
Within vs ws = (w : Want) → Memᴰ w vs → Memᴰ w ws

within_left : (vs us ws : List Want) → Within (vs ++ us) ws → Within vs ws
within_left vs us ws h w m = h w (Memᴰ.append_left us m)

within_right : (vs us ws : List Want) → Within (vs ++ us) ws → Within us ws
within_right vs us ws h w m = h w (Memᴰ.append_right vs m)

module _ (asked given : List Want) (p r : Packet) (same : SameTests asked p r) where
  meets_alike : (w : Want) → Memᴰ w asked → (q s : Packet) → Alike given p r q s → meets w q ≡ meets w s
  meets_alike w m q s k =
      let at : ℕ → Bool = λ x. eqb x w.value in
      ⊎_elim (λ e. ap at e.0 ∙ same w m ∙ sym (ap at e.1)) (λ e. ap at e.0) (k.at w.at)

  holds_alike : (a : Test) → Within (tested a) asked → (q s : Packet) → Alike given p r q s → holds a q ≡ holds a s
  unfolding holds tested
  holds_alike always h q s k = refl
  holds_alike (is f x) h q s k = meets_alike _ (h _ (Memᴰ.head refl)) q s k
  holds_alike (both a b) h q s k = λ i. holds_alike a (within_left _ _ _ h) q s k i && holds_alike b (within_right (tested a) _ _ h) q s k i
  holds_alike (either a b) h q s k = λ i. holds_alike a (within_left _ _ _ h) q s k i || holds_alike b (within_right (tested a) _ _ h) q s k i
  holds_alike (isnt a) h q s k = ap not (holds_alike a h q s k)

  moved : (f x y v w : ℕ) → v ≡ x → w ≡ y → AlikeAt given p r f x y → AlikeAt given p r f v w
  moved f x y v w d e h =
      ⊎_elim (λ k. inl (d ∙ k.0, e ∙ k.1)) (λ k. inr (d ∙ k.0 ∙ sym e, Memᴰ.cast (λ i. record { at = f; value = d i }) k.1)) h

  put_alike : (f x : ℕ) → Memᴰ (record { at = f; value = x }) given → (q s : Packet) → Alike given p r q s → Alike given p r (put f x q) (put f x s)
  put_alike f x m q s k =
      record {
        eight = (length-set q f x ∙ k.eight.0, length-set s f x ∙ k.eight.1);
        at = λ g. ⊎_elim
            (λ e. ⊎_elim
            (λ lt.
            moved g x x _ _ (ap (λ n. get_or (set q f x) n 0) e ∙ get_or-set_same q f x 0 (omega (arith, k.eight.0)))
            (ap (λ n. get_or (set s f x) n 0) e ∙ get_or-set_same s f x 0 (omega (arith, k.eight.1)))
            (inr (refl, Memᴰ.cast (λ i. record { at = e i; value = x }) m)))
            (λ le.
            moved g _ _ _ _ (ap (field g) (set_past q f x (omega (arith, k.eight.0)))) (ap (field g) (set_past s f x (omega (arith, k.eight.1)))) (k.at g))
            (cases_lt f 8))
            (λ ne. moved g _ _ _ _ (get_or-set_other q f g x 0 ne) (get_or-set_other s f g x 0 ne) (k.at g))
            (cases_eq g f);
      }

  copies_alike : (a : Policy) → Within (tested_in a) asked → Within (put_in a) given → (q s : Packet) → Alike given p r q s → AllZip (Alike given p r) (copies a q) (copies a s)
  unfolding copies tested_in put_in
  copies_alike (keep a) h g q s k =
      subst (λ b. AllZip (Alike given p r) (cond (holds a q) (q ∷ []) []) (cond b (s ∷ []) [])) (holds_alike a h q s k)
      (elim (holds a q) as (λ b. AllZip (Alike given p r) (cond b (q ∷ []) []) (cond b (s ∷ []) [])) [ true ↦ (k, tt) | false ↦ tt ])
  copies_alike (puts f x) h g q s k = (put_alike f x (g _ (Memᴰ.head refl)) q s k, tt)
  copies_alike (and a b) h g q s k =
      each_join (Alike given p r) (copies a q) (copies a s) (copies b q) (copies b s)
      (copies_alike a (within_left _ _ _ h) (within_left _ _ _ g) q s k)
      (copies_alike b (within_right (tested_in a) _ _ h) (within_right (put_in a) _ _ g) q s k)
  copies_alike (then a b) h g q s k =
      each_mapped (Alike given p r) (copies b) (copies_alike b (within_right (tested_in a) _ _ h) (within_right (put_in a) _ _ g)) (copies a q) (copies a s)
      (copies_alike a (within_left _ _ _ h) (within_left _ _ _ g) q s k)

pub treated_alike : TreatedAlike
treated_alike a p r e f same =
    copies_alike (tested_in a) (put_in a) p r same a (λ w m. m) (λ w m. m) p r (record { eight = (e, f); at = λ g. inl (refl, refl) })

-- copies have as many fields as packets have
pub length_copies : (a : Policy) (p : Packet) → length p ≡ 8 → AllByRecursion (λ q. length q ≡ 8) (copies a p)
length_copies a p e = eights (copies a p) (copies a p) (treated_alike a p p e e (λ w m. refl))
  where
    eights : (qs ss : List Packet) → AllZip (Alike (put_in a) p p) qs ss → AllByRecursion (λ q. length q ≡ 8) qs
    eights [] [] h = tt
    eights [] (s ∷ ss) h = absurd h
    eights (q ∷ qs) [] h = absurd h
    eights (q ∷ qs) (s ∷ ss) h = (h.0.eight.0, eights qs ss h.1)
