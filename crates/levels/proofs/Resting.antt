-- On what a policy rests, by what its parts rest on.
use Rattle.std.proofs.Common.{◌≡◌, ℕ, ◌+◌, ◌<◌, ◌≤◌, true, false, cond, ◌||◌, eqb, ltb, List, [], ◌∷◌, ◌++◌, sym, refl, ap, ◌∙◌, subst, ⊎_elim, arith}
use mathlib.Core.List.Memᴰ
use mathlib.Core.List.{Memᴰ}
use Rattle.std.specs.List.{AllZip, AllByRecursion}
use Rattle.std.proofs.lemmas.Bool.{cases_Bool, ne_eqb, cond-true}
use Rattle.packet.specs.Packet.{Packet, field, once}
use Rattle.packet.specs.Policy.{Test, holds, Policy, keep, puts, and, then, each, copies, some, overfull}
use Rattle.packet.specs.Table.{Want}
use Rattle.packet.proofs.Sets.{once_same_set}
use Rattle.prescribed.specs.Table.{put_in, names}
use Rattle.prescribed.proofs.Alike.{each_join}
use Rattle.prescribed.proofs.Members.{all_member}
use Rattle.levels.specs.Like.{Like, Agree}
use Rattle.levels.specs.Bytes.{TestRests}
use Rattle.levels.specs.Rests.{Clear, Rests}
use Rattle.levels.proofs.Likes.{agree_less, like_put, as_many}

clear_left : (ws : List Want) (a b : Policy) (p : Packet) → Clear ws (and a b) p → Clear ws a p
unfolding put_in
clear_left ws a b p h w m = h w (Memᴰ.append_left (put_in b) m)

clear_right : (ws : List Want) (a b : Policy) (p : Packet) → Clear ws (and a b) p → Clear ws b p
unfolding put_in
clear_right ws a b p h w m = h w (Memᴰ.append_right (put_in a) m)

clear_first : (ws : List Want) (a b : Policy) (p : Packet) → Clear ws (then a b) p → Clear ws a p
unfolding put_in
clear_first ws a b p h w m = h w (Memᴰ.append_left (put_in b) m)

clear_second : (ws : List Want) (a b : Policy) (p : Packet) → Clear ws (then a b) p → Clear ws b p
unfolding put_in
clear_second ws a b p h w m = h w (Memᴰ.append_right (put_in a) m)

module _ (ws : List Want) (p q : Packet) where
  pub rests_up : (a : Policy) (m n : ℕ) → m ≤ n → Rests ws a m p q → Rests ws a n p q
  rests_up a m n le h r s agree = h r s (agree_less m n p r le agree)

  pub rests_keep : (t : Test) (n : ℕ) → TestRests t n p q → Rests ws (keep t) n p q
  unfolding copies overfull
  rests_keep t n h r s agree c d k =
      record {
        each =
            subst (λ b. AllZip (Like p r) (cond (holds t q) (q ∷ []) []) (cond b (s ∷ []) [])) (sym (h r s agree k))
            (elim (holds t q) as (λ b. AllZip (Like p r) (cond b (q ∷ []) []) (cond b (s ∷ []) [])) [ true ↦ (k, tt) | false ↦ tt ]);
        full = refl;
      }

  -- a value that no packet of a leaf has at the field, or that raises the level above it
  pub rests_puts : (f x n : ℕ) → cond (names f x ws) (f + 1) 0 ≤ n → Rests ws (puts f x) n p q
  unfolding copies overfull put_in
  rests_puts f x n le r s agree c d k =
      let fair : f < 8 → eqb x (field f p) ≡ eqb x (field f r) =
      λ lt. ⊎_elim
      (λ t. ap (eqb x) (agree f (omega (arith, cond-true (names f x ws) (f + 1) 0 t))))
      (λ t.
      let w : Want = record { at = f; value = x } in
      ne_eqb x (field f p) (c w (Memᴰ.head refl) lt t) ∙ sym (ne_eqb x (field f r) (d w (Memᴰ.head refl) lt t)))
      (cases_Bool (names f x ws)) in
      record { each = (like_put p r q s f x fair k, tt); full = refl }

  pub rests_and : (a b : Policy) (n : ℕ) → Rests ws a n p q → Rests ws b n p q → Rests ws (and a b) n p q
  unfolding copies overfull
  rests_and a b n h g r s agree c d k =
      let one = h r s agree (clear_left ws a b p c) (clear_left ws a b r d) k in
      let two = g r s agree (clear_right ws a b p c) (clear_right ws a b r d) k in
      let both = each_join (Like p r) (copies a q) (copies a s) (copies b q) (copies b s) one.each two.each in
      let many = as_many p r (copies a q ++ copies b q) (copies a s ++ copies b s) both in
      record { each = both; full = λ i. ltb 16 (many i) || (one.full i || two.full i) }

-- each packet of a list goes through a policy
module _ (ws : List Want) (b : Policy) (n : ℕ) (p r : Packet) (agree : Agree n p r) (c : Clear ws b p) (d : Clear ws b r) where
  pub each_rests : (qs ss : List Packet) → AllByRecursion (λ q. Rests ws b n p q) qs → AllZip (Like p r) qs ss → AllZip (Like p r) (each (copies b) qs) (each (copies b) ss)
  unfolding each
  each_rests [] [] h k = k
  each_rests [] (s ∷ ss) h k = absurd k
  each_rests (q ∷ qs) [] h k = absurd k
  each_rests (q ∷ qs) (s ∷ ss) h k =
      each_join (Like p r) (copies b q) (copies b s) (each (copies b) qs) (each (copies b) ss) (h.0 r s agree c d k.0).each (each_rests qs ss h.1 k.1)

  some_rests : (qs ss : List Packet) → AllByRecursion (λ q. Rests ws b n p q) qs → AllZip (Like p r) qs ss → some (overfull b) qs ≡ some (overfull b) ss
  unfolding some
  some_rests [] [] h k = refl
  some_rests [] (s ∷ ss) h k = absurd k
  some_rests (q ∷ qs) [] h k = absurd k
  some_rests (q ∷ qs) (s ∷ ss) h k = λ i. (h.0 r s agree c d k.0).full i || some_rests qs ss h.1 k.1 i

-- what holds of each packet once holds of all
pub all_once : (P : Packet → Type 0) (ps : List Packet) → AllByRecursion P (once ps) → AllByRecursion P ps
all_once P ps h = all_of ps (λ q m. all_member P q (once ps) h ((once_same_set ps q).1 m))
  where
    all_of : (qs : List Packet) → ((q : Packet) → Memᴰ q qs → P q) → AllByRecursion P qs
    all_of [] k = tt
    all_of (q ∷ qs) k = (k q (Memᴰ.head refl), all_of qs (λ x m. k x (Memᴰ.tail m)))

pub rests_then : (ws : List Want) (p q : Packet) (a b : Policy) (n : ℕ) → Rests ws a n p q → AllByRecursion (λ t. Rests ws b n p t) (copies a q) → Rests ws (then a b) n p q
unfolding copies overfull
rests_then ws p q a b n h g r s agree c d k =
    let one = h r s agree (clear_first ws a b p c) (clear_first ws a b r d) k in
    let all = each_rests ws b n p r agree (clear_second ws a b p c) (clear_second ws a b r d) (copies a q) (copies a s) g one.each in
    let any = some_rests ws b n p r agree (clear_second ws a b p c) (clear_second ws a b r d) (copies a q) (copies a s) g one.each in
    let many = as_many p r (each (copies b) (copies a q)) (each (copies b) (copies a s)) all in
    record { each = all; full = λ i. ltb 16 (many i) || (one.full i || any i) }
