-- That a policy has no copies, by what is known of its parts.
use Rattle.std.proofs.Common.{◌≡◌, ℕ, ◌≤◌, max, ◌||◌, ltb, List, [], ◌∷◌, ◌++◌, length, sym, refl, ap, ◌∙◌, subst, arith}
use Rattle.std.specs.List.{AllByRecursion}
use Rattle.std.proofs.lemmas.Bool.{true≢false, cond-false, leb-false, lt-leb}
use Rattle.packet.specs.Packet.{Packet, once}
use Rattle.packet.specs.Policy.{Test, holds, Policy, keep, and, then, each, copies, some, overfull}
use Rattle.packet.specs.Table.{Want}
use Rattle.levels.specs.Bytes.{level_of, Tells}
use Rattle.levels.specs.Rests.{Rests, Dead, Dies}
use Rattle.levels.proofs.Resting.{rests_up, rests_keep, rests_and, rests_then}

module _ (ws : List Want) (p q : Packet) where
  -- a byte that says yes says nothing
  pub dies_never : (a : Policy) → Dies ws 255 a p q
  dies_never a no_e = absurd (true≢false no_e)

  pub dies_keep : (e : ℕ) (t : Test) → Tells e t p q → Dies ws e (keep t) p q
  unfolding copies overfull
  dies_keep e t h no_e = record {
    none = cond-false (holds t q) (q ∷ []) [] (sym h.0 ∙ no_e);
    few = refl;
    rests = rests_keep ws p q t (level_of e) h.1;
  }

  dead_and : (a b : Policy) (m n l : ℕ) → m ≤ l → n ≤ l → Dead ws a m p q → Dead ws b n p q → Dead ws (and a b) l p q
  unfolding copies overfull once
  dead_and a b m n l below under h k =
      let none : copies a q ++ copies b q ≡ [] = λ i. h.none i ++ k.none i in
      record {
        none = none;
        few = λ i. ltb 16 (length (once (none i))) || (h.few i || k.few i);
        rests = rests_and ws p q a b l (rests_up ws p q a m l below h.rests) (rests_up ws p q b n l under k.rests);
      }

  pub dies_and : (a b : Policy) (d e : ℕ) → Dies ws d a p q → Dies ws e b p q → Dies ws (max d e) (and a b) p q
  dies_and a b d e h k no_both =
      let over = leb-false 128 (max d e) no_both in
      dead_and a b (level_of d) (level_of e) (level_of (max d e)) (omega arith) (omega arith) (h (lt-leb 128 d (omega arith))) (k (lt-leb 128 e (omega arith)))

  pub dies_then : (a b : Policy) (e : ℕ) → Dies ws e a p q → Dies ws e (then a b) p q
  unfolding copies overfull once each some
  dies_then a b e h no_e =
      let dead = h no_e in
      let none : each (copies b) (copies a q) ≡ [] = ap (each (copies b)) dead.none in
      record {
        none = none;
        few = λ i. ltb 16 (length (once (none i))) || (dead.few i || some (overfull b) (dead.none i));
        rests = rests_then ws p q a b (level_of e) dead.rests (subst (AllByRecursion (λ t. Rests ws b (level_of e) p t)) (sym dead.none) tt);
      }
