-- The desk goes on to the next stage, or begins a change, and the invariant holds.
use Rattle.std.proofs.Common.{◌≡◌, ℕ, ◌+◌, ◌<◌, ◌≤◌, T, ltb, ◌⊎◌, ◌∷◌, sym, refl, ap, ◌∙◌, subst, inl, inr, ⊎_elim, arith, ltb→lt, nltb→le}
use mathlib.Core.List.Memᴰ
use mathlib.Core.List.{Memᴰ}
use Rattle.run.specs.Net.{Net, Plan, GoodNet, GoodPlan, Cable}
use Rattle.run.specs.Order.{Order, Install, Stamp, Round, Remove, answer_to}
use Rattle.run.specs.Switch.{Mark, mark_of, Switch}
use Rattle.run.specs.Desk.{Stage, Idle, Installing, Stamping, Flushing, Removing, Desk, Busy, orders_in, AllSeen, moved, after_round, on_from, changed}
use Rattle.run.specs.Run.{Carried, Item, frame, mark, State, with_plan, wanted, commanded}
use Rattle.run.specs.Past.{rank}
use Rattle.run.proofs.Inv.{Time, time_at, StageOk, Has, old, both, new, Fit, Timely, Rides, Ripe, Fine, Asked, Kept, Since, Did, InvAt, Inv}
use Rattle.run.proofs.Lists.{by_test, never, at_self}
use Rattle.run.proofs.Cables.{line_later}

-- what the desk's going on to d must meet
record Moves (w : Net) (a : ℕ → Plan) (s : State) (g : Stage) (d : Desk) : Type 0 where
  stage : StageOk w.hops d.from d.to d.stage
  unseen : (i : ℕ) → T (d.seen i) → ⊥
  good : (v : ℕ) → v ≤ d.to → GoodPlan w (a v)
  switches : (i : ℕ) → i < w.switches → Fit w.hops (time_at w d d.stage) a i (s.switch i)
  asked : (i : ℕ) (o : Order) → Asked w.hops (time_at w s.desk g) a i o → Asked w.hops (time_at w d d.stage) a i o
  orders : (i : ℕ) (o : Order) → Memᴰ o (wanted s d i) → Asked w.hops (time_at w d d.stage) a i o
  timely : (i j q p : ℕ) → Cable w j q i p → (c : Carried) → Memᴰ (frame c) (s.queue j q) → Rides w a (time_at w s.desk g) i c → Timely w.hops (time_at w d d.stage) c.frame
  ripe : (k : Mark) → Ripe (time_at w s.desk g) k → Ripe (time_at w d d.stage) k

advance : (w : Net) (a : ℕ → Plan) (s : State) (g : Stage) → InvAt w a s g → (d : Desk) → Moves w a s g d → Inv w a (commanded d s)
advance w a s g v d m = record {
  stage = m.stage;
  good = m.good;
  switches = m.switches;
  answered = v.answered;
  wired = v.wired;
  exits = v.exits;
  seen = λ i t. absurd (m.unseen i t);
  given = λ i o z. ⊎_elim (λ y. m.asked i o (v.given i o y)) (m.orders i o) (Memᴰ.append_cases (s.given i) z);
  cables = λ i j q p z. line_later w a (time_at w s.desk g) i (time_at w d d.stage) (mark ((s.switch i).latest p) ∷ s.queue j q) (go i j q p z) (v.cables i j q p z);
}
  where
    go : (i j q p : ℕ) → Cable w j q i p → (x : Item) → Memᴰ x (mark ((s.switch i).latest p) ∷ s.queue j q) → Fine w a (time_at w s.desk g) i x → Fine w a (time_at w d d.stage) i x
    go i j q p z (mark k) y f = m.ripe k f
    go i j q p z (frame c) y f = ⊎_elim (λ e. never (cc)) (λ n. record { way = f.way; less = f.less; timely = m.timely i j q p z c n f }) (Memᴰ.cases_cons y)

-- a later stage of the same change: from rank k to rank n
module _ (h from to k n : ℕ) (l : k ≤ n) where
  abbrev then : Time
  then = record { from = from; to = to; rank = k }

  abbrev now : Time
  now = record { from = from; to = to; rank = n }

  ripe_later : (m : Mark) → Ripe then m → Ripe now m
  ripe_later m y = ⊎_elim inl (λ b. inr (b.0, let c = b.1 in omega arith)) y

  asked_later : (a : ℕ → Plan) (i : ℕ) (o : Order) → Asked h then a i o → Asked h now a i o
  asked_later a i (Install v t) y = ⊎_elim inl (λ b. inr (b.0, let c = b.1 in omega arith, b.2)) y
  asked_later a i (Stamp v) y = ⊎_elim inl (λ b. inr (b.0, let c = b.1 in omega arith)) y
  asked_later a i (Round v r) y = ripe_later (mark_of v r) y
  asked_later a i (Remove v) y = ⊎_elim inl (λ b. inr (b.0, let c = b.1 in omega arith)) y

  -- with tables of the old version alone only up to rank 1, stamping with it only up to rank 2
  fit_later : (a : ℕ → Plan) (i : ℕ) (x : Switch) → (k ≤ 1 → Has h then a i x.held x.floor → Has h now a i x.held x.floor) → (x.stamp ≡ from → n ≤ 2) → Fit h then a i x → Fit h now a i x
  fit_later a i x f g y = record { has = go y.has; stamps = ⊎_elim (λ b. inl (b.0, g b.0)) (λ b. inr (b.0, let c = b.1 in omega arith)) y.stamps }
    where
      go : Has h then a i x.held x.floor → Has h now a i x.held x.floor
      go (old z e b) = f b (old z e b)
      go (both z e b) = both z e (omega arith)
      go (new z e b) = new z e (omega arith)

  timely_later : (w : Net) (a : ℕ → Plan) (i : ℕ) (c : Carried) → h ≡ w.hops → (c.frame.version ≡ from → c.frame.hops + n ≤ h + 2) → Rides w a then i c → Timely w.hops now c.frame
  timely_later w a i c e f y = record { few = y.timely.few; which = ⊎_elim (λ b. inl (b.0, let d = f b.0 in omega arith)) (λ b. inr (b.0, let d = b.1 in omega arith)) y.timely.which }

module _ (w : Net) (good : GoodNet w) (a : ℕ → Plan) (s : State) where
  abbrev h : ℕ
  h = w.hops

  abbrev d : Desk
  d = s.desk

  -- what all have answered
  all_did : (g : Stage) (v : InvAt w a s g) → AllSeen w.switches d → (i : ℕ) → i < w.switches → (o : Order) → Memᴰ o (orders_in d.from d.to ((s.plans d.to).table i) g) → Did w i (s.switch i) (answer_to o)
  all_did g v all i l o m = v.answered i (answer_to o) (v.seen i (all i l) o m)

  -- a full round has come in: what is on a cable has one hop less
  pushed : (r : ℕ) → InvAt w a s (Flushing r) → AllSeen w.switches d → (i j q p : ℕ) → Cable w j q i p → (c : Carried) → Memᴰ (frame c) (s.queue j q) → c.frame.version ≡ d.from → c.frame.hops + 1 + r ≤ h
  pushed r v all i j q p z c m e = go ((s.switch i).latest p) (all_did (Flushing r) v all i (good.ends j q i p z).0 (Round d.to r) (Memᴰ.head refl) j q p z) (v.cables i j q p z).0 ((v.cables i j q p z).1 c m)
    where
      go : (k : Mark) → Since (mark_of d.to r) k → Ripe (time_at w d (Flushing r)) k → (c.frame.version < k.version → c.frame.hops + 1 + k.round ≤ h) → c.frame.hops + 1 + r ≤ h
      go k y t f = let o = v.stage.0 in let b = f (omega arith) in omega arith

  -- to a later stage n of the same change
  step : (g n : Stage) → InvAt w a s g → StageOk h d.from d.to n → rank h g ≤ rank h n →
      ((i : ℕ) → i < w.switches → (rank h g ≤ 1 → Has h (time_at w d g) a i (s.switch i).held (s.switch i).floor → Has h (time_at w d n) a i (s.switch i).held (s.switch i).floor) × ((s.switch i).stamp ≡ d.from → rank h n ≤ 2)) →
      ((i : ℕ) (o : Order) → Memᴰ o (orders_in d.from d.to ((s.plans d.to).table i) n) → Asked h (time_at w d n) a i o) →
      ((i j q p : ℕ) → Cable w j q i p → (c : Carried) → Memᴰ (frame c) (s.queue j q) → c.frame.hops < h → c.frame.version ≡ d.from → c.frame.hops + rank h n ≤ h + 2) →
      Inv w a (commanded (moved n d) s)
  step g n v ok l sw orders few = advance w a s g v (moved n d) (record {
    stage = ok;
    unseen = λ i t. t;
    good = v.good;
    switches = λ i m. fit_later h d.from d.to (rank h g) (rank h n) l a i (s.switch i) (sw i m).0 (sw i m).1 (v.switches i m);
    asked = asked_later h d.from d.to (rank h g) (rank h n) l a;
    orders = orders;
    timely = λ i j q p z c m y. timely_later h d.from d.to (rank h g) (rank h n) l w a i c refl (few i j q p z c m y.less) y;
    ripe = ripe_later h d.from d.to (rank h g) (rank h n) l;
  })

  -- behind round r, if all have stamped and what is on a cable has at most h - 1 - r hops left
  rounds : (g : Stage) (r : ℕ) → InvAt w a s g → d.to ≡ d.from + 1 → rank h g ≡ r + 2 → r ≤ h → ((i : ℕ) → i < w.switches → (s.switch i).stamp ≡ d.from → ⊥) →
      ((i j q p : ℕ) → Cable w j q i p → (c : Carried) → Memᴰ (frame c) (s.queue j q) → c.frame.hops < h → c.frame.version ≡ d.from → c.frame.hops + 1 + r ≤ h) → Inv w a (commanded (moved (after_round h r) d) s)
  rounds g r v to k l st few = by_test (λ (n : Stage). Inv w a (commanded (moved n d) s)) (ltb r h)
      (λ t. let b = ltb→lt r h t in step g (Flushing (r + 1)) v (to, omega arith, omega arith) (omega arith) (λ i m. (λ b. absurd (omega arith), λ e. absurd (st i m e)))
      (λ i o m. subst (Asked h (time_at w d (Flushing (r + 1))) a i) (sym (Memᴰ.eq_of_singleton m)) (inr (refl, omega arith)))
      (λ i j q p z c m y e. let f = few i j q p z c m y e in omega arith))
      (λ t. let b = nltb→le r h t in step g Removing v to (omega arith) (λ i m. (λ b. absurd (omega arith), λ e. absurd (st i m e)))
      (λ i o m. subst (Asked h (time_at w d Removing) a i) (sym (Memᴰ.eq_of_singleton m)) (inr (refl, omega arith)))
      (λ i j q p z c m y e. let f = few i j q p z c m y e in omega arith))

  -- the desk goes on
  pub keeps_next : (g : Stage) → InvAt w a s g → Busy g → AllSeen w.switches d → Inv w a (commanded (on_from h d g) s)
  keeps_next Idle v busy all = absurd busy
  keeps_next Installing v busy all = step Installing Stamping v v.stage (omega arith)
      (λ i l. (λ _ y. has i y (all_did Installing v all i l _ (Memᴰ.head refl)), λ _. omega arith))
      (λ i o m. subst (Asked h (time_at w d Stamping) a i) (sym (Memᴰ.eq_of_singleton m)) (inr (refl, omega arith)))
      (λ i j q p z c m y e. omega arith)
    where
      -- it has the new table, so it has both
      has : (i : ℕ) → Has h (time_at w d Installing) a i (s.switch i).held (s.switch i).floor → Kept d.to (s.switch i) → Has h (time_at w d Stamping) a i (s.switch i).held (s.switch i).floor
      has i (old z e b) (inl t) = let n = z.only d.to t in let o = v.stage in absurd (omega arith)
      has i (old z e b) (inr t) = let o = v.stage in absurd (omega arith)
      has i (both z e b) y = both z e (omega arith)
      has i (new z e b) y = absurd (omega arith)
  keeps_next Stamping v busy all = rounds Stamping 0 v v.stage refl (omega arith)
      (λ i l e. let f : d.to ≤ (s.switch i).stamp = all_did Stamping v all i l _ (Memᴰ.head refl) in let o = v.stage in omega arith)
      (λ i j q p z c m y e. omega arith)
  keeps_next (Flushing r) v busy all = rounds (Flushing r) r v v.stage.0 refl (let o = v.stage.2 in omega arith)
      (λ i l e. let b = (v.switches i l).stamps in let o = v.stage in omega arith)
      (λ i j q p z c m y e. pushed r v all i j q p z c m e)
  keeps_next Removing v busy all = advance w a s Removing v (on_from h d Removing) (record {
    stage = refl;
    unseen = λ i t. t;
    good = v.good;
    switches = λ i l. record { has = has i (all_did Removing v all i l _ (Memᴰ.head refl)) (v.switches i l).has; stamps = let b = (v.switches i l).stamps in inl (omega arith) };
    asked = asked;
    orders = λ i o m. elim m [ ];
    timely = λ i j q p z c m y. record { few = y.timely.few; which = let b = y.timely.which in let l = y.less in inl (omega arith) };
    ripe = λ k y. let o = v.stage in inl (omega arith);
  })
    where
      has : (i : ℕ) → d.from < (s.switch i).floor → Has h (time_at w d Removing) a i (s.switch i).held (s.switch i).floor → Has h (record { from = d.to; to = d.to; rank = 0 }) a i (s.switch i).held (s.switch i).floor
      has i l (old z e b) = absurd (omega arith)
      has i l (both z e b) = absurd (omega arith)
      has i l (new z e b) = old z e (omega arith)

      asked : (i : ℕ) (o : Order) → Asked h (time_at w d Removing) a i o → Asked h (record { from = d.to; to = d.to; rank = 0 }) a i o
      asked i (Install u t) y = let o = v.stage in inl (⊎_elim (λ b. omega arith) (λ b. let c = b.0 in omega arith) y)
      asked i (Stamp u) y = let o = v.stage in inl (omega arith)
      asked i (Round u r) y = let o = v.stage in inl (omega arith)
      asked i (Remove u) y = let o = v.stage in inl (omega arith)

  -- a plan is brought, which is version d .to + 1 of a
  pub keeps_change : (b : Plan) → InvAt w a s Idle → GoodPlan w b → a (d.to + 1) ≡ b → Inv w a (commanded (changed (d.to + 1) d) (with_plan (d.to + 1) b s))
  keeps_change b v right e = advance w a (with_plan (d.to + 1) b s) Idle brought (changed (d.to + 1) d) (record {
    stage = let o = v.stage in omega arith;
    unseen = λ i t. t;
    good = λ u l. ⊎_elim (v.good u) (λ z. subst (GoodPlan w) (sym (ap a z ∙ e)) right) (up_to u l);
    switches = λ i l. record { has = has i (v.switches i l).has; stamps = let z = (v.switches i l).stamps in let o = v.stage in inl (omega arith) };
    asked = asked;
    orders = λ i o m. subst (Asked h (record { from = d.from; to = d.to + 1; rank = 1 }) a i) (sym (Memᴰ.eq_of_singleton m)) (inr (refl, omega arith, at_self (λ (p : Plan). p.table i ≡ (a (d.to + 1)).table i) (d.to + 1) b (s.plans (d.to + 1)) (ap (λ (p : Plan). p.table i) (sym e))));
    timely = λ i j q p z c m y. record { few = y.timely.few; which = let o = v.stage in let n = y.timely.which in let l = y.less in inl (omega arith) };
    ripe = λ k y. inl (omega arith);
  })
    where
      brought : InvAt w a (with_plan (d.to + 1) b s) Idle
      brought = record { stage = v.stage; good = v.good; switches = v.switches; given = v.given; answered = v.answered; seen = λ i t o m. elim m [ ]; cables = v.cables; wired = v.wired; exits = v.exits }

      up_to : (u : ℕ) → u ≤ d.to + 1 → (u ≤ d.to) ⊎ (u ≡ d.to + 1)
      up_to u l = grind arith

      has : (i : ℕ) → Has h (time_at w d Idle) a i (s.switch i).held (s.switch i).floor → Has h (record { from = d.from; to = d.to + 1; rank = 1 }) a i (s.switch i).held (s.switch i).floor
      has i (old z e b) = old z e (omega arith)
      has i (both z e b) = absurd (omega arith)
      has i (new z e b) = absurd (omega arith)

      asked : (i : ℕ) (o : Order) → Asked h (time_at w d Idle) a i o → Asked h (record { from = d.from; to = d.to + 1; rank = 1 }) a i o
      asked i (Install u t) y = inl (⊎_elim (λ b. b) (λ b. let c = b.1 in omega arith) y)
      asked i (Stamp u) y = inl (omega arith)
      asked i (Round u r) y = inl (omega arith)
      asked i (Remove u) y = inl (omega arith)
