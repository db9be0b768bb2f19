-- Orders and marks that come to a switch keep the invariant.
use Rattle.std.proofs.Common.{◌≡◌, ℕ, zero, suc, ◌<◌, Bool, true, false, cond, T, eqb, List, [], ◌∷◌, None, sym, refl, ap, ◌∙◌, subst, ⊎_elim, eqb→eq}
use mathlib.Core.List.Memᴰ
use mathlib.Core.List.{Memᴰ}
use Rattle.run.specs.Net.{Net, Plan, GoodNet, Cable, Wire, Outside, To, Nothing}
use Rattle.run.specs.Order.{Order, Install, Stamp, Round, Remove}
use Rattle.run.specs.Switch.{Mark, mark_of, later, Switch, Message, MarkOn, keep_mark, obey, is_cable, marks_on, marks_for, done, take_order}
use Rattle.run.specs.Run.{Item, mark, State, with_switch, with_queue, ordered, arrived}
use Rattle.run.proofs.Inv.{time_of, Spans, Fit, Asked, Line, Lines, Inv}
use Rattle.run.proofs.Lists.{by_test, at2_self, at_self}
use Rattle.run.proofs.Switches.{obey_grows, obey_latest, obey_fit, mark_grows, mark_fit, done_did}
use Rattle.run.proofs.Keeps.{spans, keeps_switch, keeps_drop}
use Rattle.run.proofs.Moves.{Ok, moves_keep}

-- a mark on a port with a cable
pub marks_mem : (n : ℕ) (wire : ℕ → Wire) (k : Mark) (m : Message) → Memᴰ m (marks_on n wire k) → (p : ℕ) × (j : ℕ) × (q : ℕ) × (wire p ≡ To j q) × (m ≡ MarkOn p k)
unfolding marks_on
marks_mem zero wire k m z = elim z [ ]
marks_mem (suc n) wire k m z = ⊎_elim (marks_mem n wire k m) (λ y. go (wire n) refl y) (Memᴰ.append_cases (marks_on n wire k) z)
  where
    go : (x : Wire) → wire n ≡ x → Memᴰ m (cond (is_cable x) (MarkOn n k ∷ []) []) → (p : ℕ) × (j : ℕ) × (q : ℕ) × (wire p ≡ To j q) × (m ≡ MarkOn p k)
    go Outside e y = elim y [ ]
    go (To j q) e y = (n, j, q, e, Memᴰ.eq_of_singleton y)
    go Nothing e y = elim y [ ]

module _ (w : Net) (good : GoodNet w) (a : ℕ → Plan) where
  pub keeps_order : (s : State) → Inv w a s → (i : ℕ) → i < w.switches → (o : Order) → Memᴰ o (s.given i) → Inv w a (ordered w i o s)
  keeps_order s v i l o g = moves_keep w a i None (take_order w.ports (w.wire i) o (s.switch i)).sends (with_switch i x s)
      (λ k z. at_self (λ (y : Switch). Ok w a (time_of w s) s.entries i y None k) i x (s.switch i) (ok k z))
      (keeps_switch w a s v i x (λ _. fit) (obey_grows o (s.switch i)) (subst (λ (f : ℕ → Mark). Lines w a (time_of w s) i f s.queue) (obey_latest o (s.switch i)) (v.cables i)))
    where
      x : Switch
      x = obey o (s.switch i)

      sp : Spans (time_of w s)
      sp = spans w s.desk s.desk.stage v.stage

      fit : Fit w.hops (time_of w s) a i x
      fit = obey_fit w.hops (time_of w s) a i o (s.switch i) sp (v.given i o g) (v.switches i l)

      marks : (o : Order) → Asked w.hops (time_of w s) a i o → (k : Message) → Memᴰ k (marks_for w.ports (w.wire i) o) → Ok w a (time_of w s) s.entries i x None k
      marks (Install u t) y k z = elim z [ ]
      marks (Stamp u) y k z = elim z [ ]
      marks (Round u r) y k z = let b = marks_mem w.ports (w.wire i) (mark_of u r) k z in subst (Ok w a (time_of w s) s.entries i x None) (sym b.4) (b.1, b.2, b.3, y)
      marks (Remove u) y k z = elim z [ ]

      ok : (k : Message) → Memᴰ k (take_order w.ports (w.wire i) o (s.switch i)).sends → Ok w a (time_of w s) s.entries i x None k
      ok k z = ⊎_elim (marks o (v.given i o g) k)
          (λ y. by_test (λ (ms : List Message). Memᴰ k ms → Ok w a (time_of w s) s.entries i x None k) (done w.ports (w.wire i) o x)
          (λ d u. subst (Ok w a (time_of w s) s.entries i x None) (sym (Memᴰ.eq_of_singleton u)) (done_did w good (time_of w s) a i x sp fit o (v.given i o g) d))
          (λ _ u. elim u [ ]) y)
          (Memᴰ.append_cases (marks_for w.ports (w.wire i) o) z)

  -- a mark comes in: it stands at the head of its cable from now on
  pub keeps_mark : (s : State) → Inv w a s → (j q i p : ℕ) → Cable w j q i p → (k : Mark) (rest : List Item) → s.queue j q ≡ mark k ∷ rest → Inv w a (arrived w i p (mark k) (with_queue j q rest s))
  keeps_mark s v j q i p c k rest e = moves_keep w a i None [] (with_switch i (keep_mark p k (s.switch i)) t) (λ m z. elim z [ ])
      (keeps_switch w a t less i (keep_mark p k (s.switch i)) (λ l. mark_fit w.hops (time_of w s) a i p k (s.switch i) (v.switches i l)) (mark_grows p k (s.switch i)) now)
    where
      t : State
      t = with_queue j q rest s

      less : Inv w a (with_queue j q rest s)
      less = keeps_drop w a s v j q (mark k) [] rest e

      first : Line w a (time_of w s) i (mark k ∷ rest)
      first = (subst (λ (ys : List Item). Line w a (time_of w s) i (mark ((s.switch i).latest p) ∷ ys)) e (v.cables i j q p c)).2

      new : (j' q' p' : ℕ) → Cable w j' q' i p' → (b : Bool) → (T b → p' ≡ p) → Line w a (time_of w s) i (mark (cond b k ((s.switch i).latest p')) ∷ t.queue j' q')
      new j' q' p' y false f = less.cables i j' q' p' y
      new j' q' p' y true f =
          let x : w.wire i p ≡ To j' q' = ap (w.wire i) (sym (f tt)) ∙ good.both j' q' i p' y in
          let z : w.wire i p ≡ To j q = good.both j q i p c in
          let ej : j ≡ j' = cc in
          let eq : q ≡ q' = cc in
          subst (λ (n : ℕ). Line w a (time_of w s) i (mark k ∷ t.queue n q')) ej
          (subst (λ (n : ℕ). Line w a (time_of w s) i (mark k ∷ t.queue j n)) eq
          (at2_self (λ (ys : List Item). Line w a (time_of w s) i (mark k ∷ ys)) j q rest (s.queue j q) first))

      now : Lines w a (time_of w s) i (keep_mark p k (s.switch i)).latest t.queue
      now = by_test (λ (x : Switch). Lines w a (time_of w s) i x.latest t.queue) (later k ((s.switch i).latest p))
          (λ _ j' q' p' y. new j' q' p' y (eqb p' p) (eqb→eq p' p))
          (λ _. less.cables i)
