-- The promise holds in every reachable state.
use Rattle.std.proofs.Common.{◌≡◌, ℕ, ◌+◌, ◌<◌, ◌≤◌, ◌⊎◌, List, [], ◌∷◌, ◌++◌, length, sym, refl, ap, ◌∙◌, subst, inl, inr, ⊎_elim, le_trans, le_refl, arith, length-append}
use mathlib.Core.List.{Memᴰ}
use Rattle.packet.specs.Packet.{Packet}
use Rattle.run.specs.Net.{Net, Plan, GoodNet, GoodPlan}
use Rattle.run.specs.Switch.{Switch, fresh}
use Rattle.run.specs.Desk.{Idle, changed}
use Rattle.run.specs.Run.{Entry, frame, mark, State, Step, enter, arrive, lose, order, hear, next, change, Steps, stay, more, Reach, start, with_plan, with_queue, entry, entered, commanded}
use Rattle.run.specs.Promise.{Holds, CameIn, Promise}
use Rattle.run.proofs.Inv.{time_at, Has, old, both, new, Grows, InvAt, Inv}
use Rattle.run.proofs.Lists.{at_self, snoc_cases}
use Rattle.run.proofs.Held.{holds_one}
use Rattle.run.proofs.Keeps.{spans, keeps_drop, keeps_fall, keeps_heard}
use Rattle.run.proofs.Frames.{keeps_enter, keeps_arrive, meets_table, rides}
use Rattle.run.proofs.Orders.{keeps_order, keeps_mark}
use Rattle.run.proofs.Next.{keeps_next, keeps_change}
use Rattle.run.proofs.Copies.{All, all_enter, all_arrive, all_mark, all_lose, all_order}
use Rattle.run.proofs.Steps.{next_is, Stays, stays, grows, New, entries_of}

-- plans that agree with those brought so far
abbrev Agree : (ℕ → Plan) → State → Type 0
Agree a s = (v : ℕ) → v ≤ s.desk.to → a v ≡ s.plans v

abbrev Both : Net → (ℕ → Plan) → State → Type 0
Both w a s = Inv w a s × All w a s

at_start : (w : Net) → GoodNet w → (a : ℕ → Plan) → Agree a (start w) → Both w a (start w)
at_start w good a g = (
  record {
    stage = refl;
    good = λ v l. subst (GoodPlan w) (sym (g v l)) good.plan;
    switches = λ i l. record { has = old (holds_one a i 0 (w.first.table i) (ap (λ (p : Plan). p.table i) (sym (g 0 (le_refl 0))))) refl (omega arith); stamps = inl (refl, omega arith) };
    given = λ i o m. elim m [ ];
    answered = λ i o m. elim m [ ];
    seen = λ i t. absurd t;
    cables = λ i j q p e. (inl (omega arith), λ c m. elim m [ ], tt);
    wired = λ j q x m. elim m [ ];
    exits = λ e m. elim m [ ];
  },
  λ e m. elim m [ ],
)

kept : (w : Net) → GoodNet w → (a : ℕ → Plan) {s t : State} → Step w s t → Agree a t → Both w a s → Both w a t
kept w good a (enter s i l p n e) g b = (keeps_enter w good a s b.0 i l p n, all_enter w good a s b.0 b.1 i l p n)
kept w good a (arrive s j q i p e (frame c) rest m) g b = (keeps_arrive w good a s b.0 j q i p e c rest m, all_arrive w good a s b.0 b.1 j q i p e c rest m)
kept w good a (arrive s j q i p e (mark k) rest m) g b = (keeps_mark w good a s b.0 j q i p e k rest m, all_mark w good a s b.1 j q i p e k rest m)
kept w good a (lose s j q i p e x front rest m) g b = (keeps_fall w a (with_queue j q (front ++ rest) s) (keeps_drop w a s b.0 j q x front rest m) i x, all_lose w good a s b.1 j q i p e x front rest m)
kept w good a (order s i l o m) g b = (keeps_order w good a s b.0 i l o m, all_order w good a s b.1 i o)
kept w good a (hear s i l o m n) g b = (keeps_heard w a s b.0 i o m n, b.1)
kept w good a (next s y all) g b = (keeps_next w good a s s.desk.stage b.0 y all, b.1)
kept w good a (change s v p y idle room) g b = (
  subst (λ (n : ℕ). Inv w a (commanded (changed n s.desk) (with_plan n p s))) (sym is)
      (keeps_change w good a s p (subst (InvAt w a s) idle b.0) y (subst (λ (n : ℕ). a n ≡ p) is (g v (le_refl v) ∙ at_self (λ (x : Plan). x ≡ p) v p (s.plans v) refl))),
  b.1,
)
  where
    is : v ≡ s.desk.to + 1
    is = (next_is s.desk v room).0

-- whatever is brought later, the invariant holds
always : (w : Net) → GoodNet w → {s : State} → Reach w s → (a : ℕ → Plan) → Agree a s → Both w a s
always w good stay a g = at_start w good a g
always w good (more r t) a g = let z = stays w t in kept w good a t g (always w good r a (λ v l. g v (le_trans l z.to) ∙ sym (z.plans v l)))

pub now : (w : Net) → GoodNet w → {s : State} → Reach w s → Both w s.plans s
now w good {s} r = always w good r s.plans (λ v l. refl)

-- each entry was made when its packet came in
pub came : (w : Net) → GoodNet w → {s : State} → Reach w s → (e : Entry) → Memᴰ e s.entries → CameIn w s e × (e.version ≤ s.desk.to)
came w good stay e m = elim m [ ]
came w good (more {t = s} {u = t} r y) e m = go (came w good r e) (entries_of w y)
  where
    z : Stays s t
    z = stays w y

    older : CameIn w s e × (e.version ≤ s.desk.to) → CameIn w t e × (e.version ≤ t.desk.to)
    older x = (record { before = x.0.before; reached = x.0.reached; since = more x.0.since y; outside = x.0.outside; is = x.0.is; plan = x.0.plan ∙ z.plans e.version x.1 }, le_trans x.1 z.to)

    newer : (n : New w s t) → e ≡ entry s n.i n.p → CameIn w t e × (e.version ≤ t.desk.to)
    newer n x = subst (λ (u : Entry). CameIn w t u × (u.version ≤ t.desk.to)) (sym x)
        (record { before = s; reached = r; since = subst (Steps w (entered w n.i n.p s)) (sym n.is) stay; outside = n.outside; is = refl; plan = z.plans (s.switch n.i).stamp k }, le_trans k z.to)
      where
        k : (s.switch n.i).stamp ≤ s.desk.to
        k = let v = (now w good r).0 in let f = (v.switches n.i n.here).stamps in let p = spans w s.desk s.desk.stage v.stage in omega arith

    go : (Memᴰ e s.entries → CameIn w s e × (e.version ≤ s.desk.to)) → (t.entries ≡ s.entries) ⊎ New w s t → CameIn w t e × (e.version ≤ t.desk.to)
    go f (inl x) = older (f (subst (Memᴰ e) x m))
    go f (inr n) = ⊎_elim (λ x. older (f x)) (newer n) (snoc_cases s.entries (subst (Memᴰ e) n.entries m))

-- entries stand in the order in which they were made
record Ordered (es : List Entry) (f : ℕ → Switch) : Type 0 where
  below : (e : Entry) → Memᴰ e es → e.ticket < length es
  stamp : (e : Entry) → Memᴰ e es → e.version ≤ (f e.from).stamp
  later : (e g : Entry) → Memᴰ e es → Memᴰ g es → e.from ≡ g.from → e.ticket < g.ticket → e.version ≤ g.version
  unique : (e g : Entry) → Memᴰ e es → Memᴰ g es → e.ticket ≡ g.ticket → e ≡ g

ordered_grows : (es : List Entry) (f g : ℕ → Switch) → ((i : ℕ) → Grows (f i) (g i)) → Ordered es f → Ordered es g
ordered_grows es f g h o = record { below = o.below; stamp = λ e m. le_trans (o.stamp e m) (h e.from).stamp; later = o.later; unique = o.unique }

ordered_new : (es : List Entry) (f : ℕ → Switch) → Ordered es f → (i : ℕ) (p : Packet) → Ordered (es ++ (record { ticket = length es; version = (f i).stamp; from = i; first = p } ∷ [])) f
ordered_new es f o i p = record {
  below = λ e m. simp length-append (⊎_elim (λ z. let t = o.below e z in omega arith) (λ z. let t = ap (λ (x : Entry). x.ticket) z in omega arith) (snoc_cases es m));
  stamp = λ e m. ⊎_elim (o.stamp e) (λ z. subst (λ (x : Entry). x.version ≤ (f x.from).stamp) (sym z) (le_refl (f i).stamp)) (snoc_cases es m);
  later = λ e g m n. late e g (snoc_cases es m) (snoc_cases es n);
  unique = λ e g m n. uni e g (snoc_cases es m) (snoc_cases es n);
}
  where
    new : Entry
    new = record { ticket = length es; version = (f i).stamp; from = i; first = p }

    late : (e g : Entry) → Memᴰ e es ⊎ (e ≡ new) → Memᴰ g es ⊎ (g ≡ new) → e.from ≡ g.from → e.ticket < g.ticket → e.version ≤ g.version
    late e g (inl a) (inl b) q l = o.later e g a b q l
    late e g (inl a) (inr b) q l = let x = o.stamp e a in let y : e.from ≡ i = q ∙ ap (λ (x : Entry). x.from) b in let z = ap (λ (x : Entry). x.version) b in let u = ap (λ (n : ℕ). (f n).stamp) y in omega arith
    late e g (inr a) (inl b) q l = let x = ap (λ (x : Entry). x.ticket) a in let y = o.below g b in absurd (omega arith)
    late e g (inr a) (inr b) q l = let x = ap (λ (x : Entry). x.ticket) a in let y = ap (λ (x : Entry). x.ticket) b in absurd (omega arith)

    uni : (e g : Entry) → Memᴰ e es ⊎ (e ≡ new) → Memᴰ g es ⊎ (g ≡ new) → e.ticket ≡ g.ticket → e ≡ g
    uni e g (inl a) (inl b) q = o.unique e g a b q
    uni e g (inl a) (inr b) q = let x = ap (λ (x : Entry). x.ticket) b in let y = o.below e a in absurd (omega arith)
    uni e g (inr a) (inl b) q = let x = ap (λ (x : Entry). x.ticket) a in let y = o.below g b in absurd (omega arith)
    uni e g (inr a) (inr b) q = a ∙ sym b

ordered : (w : Net) {s : State} → Reach w s → Ordered s.entries s.switch
ordered w stay = record { below = λ e m. elim m [ ]; stamp = λ e m. elim m [ ]; later = λ e g m. elim m [ ]; unique = λ e g m. elim m [ ] }
ordered w (more {t = s} {u = t} r y) = go (ordered w r) (entries_of w y)
  where
    go : Ordered s.entries s.switch → (t.entries ≡ s.entries) ⊎ New w s t → Ordered t.entries t.switch
    go o (inl z) = subst (λ (es : List Entry). Ordered es t.switch) (sym z) (ordered_grows s.entries s.switch t.switch (grows w y) o)
    go o (inr n) = subst (λ (es : List Entry). Ordered es t.switch) (sym n.entries) (ordered_grows _ s.switch t.switch (grows w y) (ordered_new s.entries s.switch o n.i n.p))

pub promise : Promise
promise w good s r = let b = now w good r in record {
  came = λ e m. (came w good r e m).0;
  right = λ x m. let z = b.0.exits x m in (z.logged, z.leaves);
  all = b.1;
  stamped = λ i l. (meets_table w good s.plans s b.0 i l (fresh 0 [] (s.switch i)) (record { which = ⊎_elim (λ z. inl (z.0, let c = z.1 in omega arith)) inr (b.0.switches i l).stamps; few = omega arith })).0;
  met = λ j q i p e c m. (meets_table w good s.plans s b.0 i (good.ends j q i p e).0 c.frame (rides w good s.plans s b.0 j q i p e c m).timely).0;
  later = (ordered w r).later;
  unique = (ordered w r).unique;
  done = λ e i l. let v = subst (InvAt w s.plans s) e b.0 in let x = v.switches i l in let y = x.stamps in let o = v.stage in (only i o x.has, omega arith);
}
  where
    only : (i : ℕ) → s.desk.to ≡ s.desk.from → Has w.hops (time_at w s.desk Idle) s.plans i (s.switch i).held (s.switch i).floor → Holds s.plans i (λ v. v ≡ s.desk.to) (s.switch i).held
    only i o (old z f b) = subst (λ (n : ℕ). Holds s.plans i (λ v. v ≡ n) (s.switch i).held) (sym o) z
    only i o (both z f b) = absurd (omega arith)
    only i o (new z f b) = absurd (omega arith)
