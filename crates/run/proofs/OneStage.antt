-- In one stage: if each order can be brought to its answer, and each mark over its cable, all switches are heard.
use Rattle.std.proofs.Common.{◌≡◌, ℕ, zero, suc, ◌<◌, T, sym, refl, subst, ⊎_elim, arith}
use mathlib.Core.List.{Memᴰ}
use Rattle.run.specs.Net.{Net, GoodNet, Cable, Wire, Outside, To, Nothing}
use Rattle.run.specs.Order.{Order, Round, answer_to}
use Rattle.run.specs.Switch.{mark_of, obey}
use Rattle.run.specs.Desk.{Stage, Idle, Installing, Stamping, Flushing, Removing, Busy, orders_in, AllSeen}
use Rattle.run.specs.Run.{State, Reach, wanted}
use Rattle.run.proofs.Inv.{Since, Did, Grows}
use Rattle.run.proofs.Lists.{never, below_split}
use Rattle.run.proofs.Keeps.{one_order}
use Rattle.run.proofs.Whole.{now}
use Rattle.run.proofs.Stages.{Stay, stage_order}
use Rattle.run.proofs.Answering.{Rounds, order_does}

-- x: a place in a run; R: y is behind x, in the same stage; Ev x Q: from x on Q comes to hold, in whatever sense
module _ (X : Type 0) (R : X → X → Type 0) (Ev : X → (X → Type 0) → Type 0)
    (pure : (Q : X → Type 0) (x : X) → Q x → Ev x Q) (bind : (Q S : X → Type 0) (x : X) → Ev x Q → ((y : X) → R x y → Q y → Ev y S) → Ev x S) where
  -- each of the first k
  each : (Q : ℕ → X → Type 0) → ((i : ℕ) (x y : X) → R x y → Q i x → Q i y) → (x : X) (k : ℕ) → ((i : ℕ) (y : X) → i < k → R x y → Ev y (Q i)) → Ev x (λ y. (i : ℕ) → i < k → Q i y)
  each Q mono x zero f = pure (λ y. (i : ℕ) → i < 0 → Q i y) x (λ i l. absurd (omega arith))
  each Q mono x (suc k) f = bind (λ y. (i : ℕ) → i < k → Q i y) (λ y. (i : ℕ) → i < suc k → Q i y) x (each Q mono x k (λ i y l r. f i y (omega arith) r))
      (λ y r g. bind (Q k) (λ y. (i : ℕ) → i < suc k → Q i y) y (f k y (omega arith) r)
      (λ z r' q. pure (λ y. (i : ℕ) → i < suc k → Q i y) z (λ i l. ⊎_elim (λ a. mono i y z r' (g i a)) (λ a. subst (λ (n : ℕ). Q n z) (sym a) q) (below_split i k l))))

  module _ (w : Net) (good : GoodNet w) (state : X → State) (reached : (x : X) → Reach w (state x)) (stays : (x y : X) → R x y → Stay (state x) (state y))
      (trans : (x y z : X) → R x y → R y z → R x z) (grows : (x y : X) → R x y → (i : ℕ) → Grows ((state x).switch i) ((state y).switch i))
      -- a switch whose order is done for good whenever it comes is heard
      (hears : (x : X) → Busy (state x).desk.stage → (i : ℕ) → i < w.switches → (o : Order) → Memᴰ o (wanted (state x) (state x).desk i) →
      ((y : X) → R x y → Did w i (obey o ((state y).switch i)) (answer_to o)) → Ev x (λ y. T ((state y).desk.seen i)))
      -- the mark of a round comes in over each cable
      (brings : (x : X) → Busy (state x).desk.stage → (j q i p v r : ℕ) → j < w.switches → Cable w j q i p → Memᴰ (Round v r) (wanted (state x) (state x).desk j) →
      Ev x (λ y. Since (mark_of v r) (((state y).switch i).latest p))) where
    abbrev Heard : X → Type 0
    Heard y = AllSeen w.switches (state y).desk

    busy : (x y : X) → R x y → Busy (state x).desk.stage → Busy (state y).desk.stage
    busy x y r b = subst Busy (stays x y r).stage b

    -- if from x on each order of the stage is done for good when it comes
    heard : (x : X) → Busy (state x).desk.stage → ((y : X) → R x y → (i : ℕ) → i < w.switches → (o : Order) → Memᴰ o (wanted (state y) (state y).desk i) → Did w i (obey o ((state y).switch i)) (answer_to o)) → Ev x Heard
    heard x b f = each (λ i y. T ((state y).desk.seen i)) (λ i y z r. (stays y z r).seen i) x w.switches
        (λ i y l r. let s = state y in let o = stage_order s.desk.from s.desk.to ((s.plans s.desk.to).table i) s.desk.stage (busy x y r b) in
        hears y (busy x y r b) i l o.0 o.1 (λ z r'. f z (trans x y z r r') i l o.0 (subst (Memᴰ o.0) ((stays y z r').wants i) o.1)))

    plain : (x : X) → Busy (state x).desk.stage → (Rounds (state x).desk.stage → ⊥) → Ev x Heard
    plain x b nor = heard x b (λ y r i l o m. let s = state y in order_does w good s.plans s s.desk.stage (now w good (reached y)).0 (λ k. nor (subst Rounds (sym (stays x y r).stage) k)) i l o m)

    -- over the cable at port q of switch j, if there is one, the mark has come in
    In : (v r j q : ℕ) → X → Type 0
    In v r j q x = (i p : ℕ) → Cable w j q i p → Since (mark_of v r) (((state x).switch i).latest p)

    in_more : (v r j q : ℕ) (x y : X) → R x y → In v r j q x → In v r j q y
    unfolding In
    in_more v r j q x y k f i p c = (grows x y k i).latest p (mark_of v r) (f i p c)

    one_in : (v r : ℕ) (x : X) → Busy (state x).desk.stage → (j : ℕ) → j < w.switches → Memᴰ (Round v r) (wanted (state x) (state x).desk j) → (q : ℕ) (u : Wire) → w.wire j q ≡ u → Ev x (In v r j q)
    unfolding In
    one_in v r x b j l m q Outside e = pure (In v r j q) x (λ i p c. never (cc))
    one_in v r x b j l m q Nothing e = pure (In v r j q) x (λ i p c. never (cc))
    one_in v r x b j l m q (To i p) e = bind (λ y. Since (mark_of v r) (((state y).switch i).latest p)) (In v r j q) x (brings x b j q i p v r l e m)
        (λ y _ g. pure (In v r j q) y (λ i' p' c. let ei : i ≡ i' = cc in let ep : p ≡ p' = cc in
        subst (λ (a : ℕ). Since (mark_of v r) (((state y).switch a).latest p')) ei (subst (λ (a : ℕ). Since (mark_of v r) (((state y).switch i).latest a)) ep g)))

    -- a round: first all its marks come in
    round : (x : X) → Busy (state x).desk.stage → (r : ℕ) → (state x).desk.stage ≡ Flushing r → Ev x Heard
    unfolding In
    round x b r e = bind (λ y. (j : ℕ) → j < w.switches → (q : ℕ) → q < w.ports → In v r j q y) Heard x
        (each (λ j y. (q : ℕ) → q < w.ports → In v r j q y) (λ j y z k f q l. in_more v r j q y z k (f q l)) x w.switches
        (λ j y l k. each (In v r j) (λ q y z. in_more v r j q y z) y w.ports (λ q z lq k'. let n = trans x y z k k' in one_in v r z (busy x z n b) j l (asks z j n) q (w.wire j q) refl)))
        (λ y k f. heard y (busy x y k b) (λ z k' i l o m. let n = trans x y z k k' in
        subst (λ (o : Order). Did w i (obey o ((state z).switch i)) (answer_to o)) (one_order (state z).desk.from (state z).desk.to (((state z).plans (state z).desk.to).table i) (state z).desk.stage (Round v r) o (asks z i n) m)
        (λ j q p c. let c' = good.both j q i p c in in_more v r j q y z k' (f j (good.ends i p j q c').0 q (good.ends i p j q c').1) i p c)))
      where
        v : ℕ
        v = (state x).desk.to

        asks : (y : X) (i : ℕ) → R x y → Memᴰ (Round v r) (wanted (state y) (state y).desk i)
        asks y i k = subst (Memᴰ (Round v r)) ((stays x y k).wants i)
            (subst (λ (g : Stage). Memᴰ (Round v r) (orders_in (state x).desk.from v (((state x).plans v).table i) g)) (sym e) (Memᴰ.head refl))

    pub all_heard : (x : X) → Busy (state x).desk.stage → Ev x (λ y. AllSeen w.switches (state y).desk)
    all_heard x b = go (state x).desk.stage refl
      where
        go : (g : Stage) → (state x).desk.stage ≡ g → Ev x Heard
        go Idle e = absurd (subst Busy e b)
        go Installing e = plain x b (λ z. subst Rounds e z)
        go Stamping e = plain x b (λ z. subst Rounds e z)
        go (Flushing r) e = round x b r e
        go Removing e = plain x b (λ z. subst Rounds e z)
