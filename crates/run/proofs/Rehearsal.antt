-- The promise holds over any list of calls.
use Rattle.std.proofs.Common.{◌≡◌, ℕ, ◌<◌, ◌≤◌, ◌⊎◌, List, [], ◌∷◌, ◌++◌, sym, refl, ap, ◌∙◌, subst, inl, inr, ⊎_elim, append_assoc, arith}
use mathlib.Core.List.Memᴰ
use mathlib.Core.List.{Memᴰ}
use Rattle.packet.specs.Packet.{Packet}
use Rattle.run.specs.Net.{Plan, Net, GoodNet, Cable, Leaves}
use Rattle.run.specs.Desk.{Idle}
use Rattle.run.specs.Run.{Entry, Exit, Fallen, State, Steps, stay, Reach, entry}
use Rattle.run.specs.Promise.{Holds, Whole, Coming, Missed}
use Rattle.run.specs.Calls.{Call, Enter, Change, Event, Left, LostFrame, LostMark, Staged, Shown, Refused, Impossible, left_of, Does, Done, did, Played, begun, then}
use Rattle.run.specs.Rehearsal.{Told, PlanOf, CameIn, ToldLost, Behind, Rehearsal}
use Rattle.run.proofs.Lists.{never, snoc_cases, snoc_old, snoc_last, mem_split}
use Rattle.run.proofs.Steps.{grown, entries_stay}
use Rattle.run.proofs.Whole as whole
use Rattle.run.proofs.Told.{steps_of, steps_trans, Exits, exits_of, fallen_of, plans_of, Enters, nobody, one, enters_of, idle_of}

pub reach : (w : Net) {ds : List Done} {s : State} → Played w ds s → Reach w s
reach w begun = stay
reach w (then p d) = steps_trans w (reach w p) (steps_of w d)

-- A list with one more at its end, split otherwise.
module _ {A : Type 0} where
  abbrev Splits : List A → A → List A → A → List A → Type 0
  Splits xs x ys y zs = ((xs ≡ ys) × (x ≡ y) × (zs ≡ [])) ⊎ ((us : List A) × (xs ≡ ys ++ (y ∷ us)) × (zs ≡ us ++ (x ∷ [])))

  split_snoc : (xs : List A) (x : A) (ys : List A) (y : A) (zs : List A) → xs ++ (x ∷ []) ≡ ys ++ (y ∷ zs) → Splits xs x ys y zs
  split_snoc [] x [] y zs e = let a : x ≡ y = cc in let b : [] ≡ zs = cc in inl (refl, a, sym b)
  split_snoc [] x (u ∷ us) y zs e = let b : [] ≡ us ++ (y ∷ zs) = cc in never (none us b)
    where
      none : (us : List A) → [] ≡ us ++ (y ∷ zs) → ◌≡◌ {A = ℕ} 0 1
      none [] b = cc
      none (v ∷ vs) b = cc
  split_snoc (u ∷ us) x [] y zs e = let a : u ≡ y = cc in let b : us ++ (x ∷ []) ≡ zs = cc in inr (us, ap (λ z. z ∷ us) a, sym b)
  split_snoc (u ∷ us) x (v ∷ vs) y zs e = let a : u ≡ v = cc in let b : us ++ (x ∷ []) ≡ vs ++ (y ∷ zs) = cc in
      ⊎_elim (λ r. inl (ap (λ z. z ∷ us) a ∙ ap (λ l. v ∷ l) r.0, r.1, r.2)) (λ r. inr (r.0, ap (λ z. z ∷ us) a ∙ ap (λ l. v ∷ l) r.1, r.2)) (split_snoc us x vs y zs b)

-- the state before a call, the one behind it, and the way from there
pub record Moment (w : Net) (before : List Done) (d : Done) (s : State) : Type 0 where
  pub from : State
  pub to : State
  pub played : Played w before from
  pub does : Does w from d.call d.told to
  pub since : Steps w to s

pub moment : (w : Net) {ds : List Done} {s : State} → Played w ds s → (before : List Done) (d : Done) (after : List Done) → ds ≡ before ++ (d ∷ after) → Moment w before d s
moment w begun [] d after e = never (cc)
moment w begun (b ∷ before) d after e = never (cc)
moment w (then {ds} {s} {t} {c} {es} p y) before d after e = ⊎_elim
    (λ r. subst (λ (l : List Done). Moment w l d t) r.0 (subst (λ (x : Done). Moment w ds x t) r.1 (record { from = s; to = t; played = p; does = y; since = stay })))
    (λ r. let m = moment w p before d r.0 r.1 in record { from = m.from; to = m.to; played = m.played; does = m.does; since = steps_trans w m.since (steps_of w y) })
    (split_snoc ds (did c es) before d after e)

-- One call more.
told_old : {ds : List Done} (d : Done) {e : Event} → Told ds e → Told (ds ++ (d ∷ [])) e
told_old {ds} d t = record { call = t.call; listed = snoc_old ds d t.listed; told = t.told }

told_new : (ds : List Done) (d : Done) (e : Event) → Memᴰ e d.told → Told (ds ++ (d ∷ [])) e
told_new ds d e m = record { call = d; listed = snoc_last ds d; told = m }

plan_old : (w : Net) (ds : List Done) (d : Done) (v : ℕ) (a : Plan) → PlanOf w ds v a → PlanOf w (ds ++ (d ∷ [])) v a
plan_old w ds d v a p = ⊎_elim inl (λ m. inr (snoc_old ds d m)) p

abbrev came_old : (w : Net) (ds : List Done) (d : Done) (i : ℕ) (p : Packet) → CameIn w ds i p → CameIn w (ds ++ (d ∷ [])) i p
came_old w ds d i p c = record {
  before = c.before;
  told = c.told;
  after = c.after ++ (d ∷ []);
  is = ap (λ (l : List Done). l ++ (d ∷ [])) c.is ∙ append_assoc c.before (did (Enter i p) c.told ∷ c.after) (d ∷ []);
  state = c.state;
  played = c.played;
}

-- the state behind the calls, and what was told of them
record Tied (w : Net) (ds : List Done) (s : State) : Type 0 where
  exits : (x : Exit) → Memᴰ x s.exits → Told ds (left_of x)
  left : (i : ℕ) (p : Packet) (v k : ℕ) (o : Packet) → Told ds (Left i p v k o) → (x : Exit) × Memᴰ x s.exits × (left_of x ≡ Left i p v k o)
  fallen : (f : Fallen) → Memᴰ f s.fallen → (j : ℕ) × (q : ℕ) × (p : ℕ) × Cable w j q f.to p × Told ds (LostFrame j q f.what.frame)
  plans : (v : ℕ) → v ≤ s.desk.to → PlanOf w ds v (s.plans v)
  entries : (e : Entry) → Memᴰ e s.entries → (c : CameIn w ds e.from e.first) × (e ≡ entry c.state e.from e.first)

tied_more : (w : Net) {ds : List Done} {s t : State} {c : Call} {es : List Event} → Played w ds s → Does w s c es t → Tied w ds s → Tied w (ds ++ (did c es ∷ [])) t
tied_more w {ds} {s} {t} {c} {es} p y z = record {
  exits = λ x m. ⊎_elim (λ n. told_old (did c es) (z.exits x n)) (λ n. told_new ds (did c es) (left_of x) (ex.told x n)) (Memᴰ.append_cases s.exits (subst (Memᴰ x) ex.is m));
  left = λ i q v k o u. ⊎_elim
      (λ n. let r = z.left i q v k o (record { call = u.call; listed = n; told = u.told }) in (r.0, subst (Memᴰ r.0) (sym ex.is) (Memᴰ.append_left ex.more r.1), r.2))
      (λ n. let r = ex.only i q v k o (subst (λ (d : Done). Memᴰ (Left i q v k o) d.told) n u.told) in (r.0, subst (Memᴰ r.0) (sym ex.is) (Memᴰ.append_right s.exits r.1), r.2))
      (snoc_cases ds u.listed);
  fallen = λ f m. ⊎_elim (λ n. let r = z.fallen f n in (r.0, r.1, r.2, r.3, told_old (did c es) r.4))
      (λ r. (r.0, r.1, r.2, r.3, told_new ds (did c es) (LostFrame r.0 r.1 f.what.frame) r.4)) (fallen_of w y f m);
  plans = λ v l. ⊎_elim (λ r. subst (PlanOf w (ds ++ (did c es ∷ [])) v) (sym r.1) (plan_old w ds (did c es) v (s.plans v) (z.plans v r.0)))
      (λ r. inr (subst (λ (d : Done). Memᴰ d (ds ++ (did c es ∷ []))) (ap (λ (a : Call). did a es) r.0 ∙ ap (did (Change (t.plans v))) r.1) (snoc_last ds (did c es)))) (plans_of w y v l);
  entries = in_by (enters_of w y);
}
  where
    ex : Exits s t es
    ex = exits_of w y

    in_by : Enters w s t c es → (e : Entry) → Memᴰ e t.entries → (c' : CameIn w (ds ++ (did c es ∷ [])) e.from e.first) × (e ≡ entry c'.state e.from e.first)
    in_by (nobody q f) e m = let r = z.entries e (subst (Memᴰ e) q m) in (came_old w ds (did c es) e.from e.first r.0, r.1)
    in_by (one i q k x) e m = ⊎_elim
        (λ n. let r = z.entries e n in (came_old w ds (did c es) e.from e.first r.0, r.1))
        (λ n. subst (λ (e : Entry). (c' : CameIn w (ds ++ (did c es ∷ [])) e.from e.first) × (e ≡ entry c'.state e.from e.first)) (sym n)
        (record { before = ds; told = es; after = []; is = ap (λ (a : Call). ds ++ (did a es ∷ [])) k; state = s; played = p }, refl))
        (snoc_cases s.entries (subst (Memᴰ e) x m))

tied : (w : Net) {ds : List Done} {s : State} → Played w ds s → Tied w ds s
tied w begun = record {
  exits = λ x m. elim m [ ];
  left = λ i p v k o t. elim t.listed [ ];
  fallen = λ f m. elim m [ ];
  plans = λ v l. inl (omega arith, refl);
  entries = λ e m. elim m [ ];
}
tied w (then p y) = tied_more w p y (tied w p)

-- a goal about what is told to have left, for any event
abbrev LeftBy : (ℕ → Packet → ℕ → ℕ → Packet → Type 0) → Event → Type 0
LeftBy P (Left i p v k o) = P i p v k o
LeftBy P (LostFrame j q f) = Unit {0}
LeftBy P (LostMark j q m) = Unit {0}
LeftBy P (Staged g v) = Unit {0}
LeftBy P (Shown i vs n f) = Unit {0}
LeftBy P (Refused n) = Unit {0}
LeftBy P Impossible = Unit {0}

module _ (w : Net) (good : GoodNet w) {ds : List Done} {s : State} (p : Played w ds s) where
  kept_whole : Whole w s
  kept_whole = whole.promise w good s (reach w p)

  ties : Tied w ds s
  ties = tied w p

  -- the plan of a packet that came in
  plan : (e : Entry) → Memᴰ e s.entries → PlanOf w ds e.version (s.plans e.version)
  plan e m = ties.plans e.version (whole.came w good (reach w p) e m).1

  left_kept : (i : ℕ) (q : Packet) (v k : ℕ) (o : Packet) → Told ds (Left i q v k o) → (c : CameIn w ds i q) × ((c.state.switch i).stamp ≡ v) × (a : Plan) × PlanOf w ds v a × Leaves w a i q k o
  left_kept i q v k o t = let r = ties.left i q v k o t in
      subst (LeftBy (λ i q v k o. (c : CameIn w ds i q) × ((c.state.switch i).stamp ≡ v) × (a : Plan) × PlanOf w ds v a × Leaves w a i q k o)) r.2 (go r.0 (kept_whole.right r.0 r.1))
    where
      go : (x : Exit) → Memᴰ x.entry s.entries × Leaves w (s.plans x.entry.version) x.entry.from x.entry.first x.at x.last →
          (c : CameIn w ds x.entry.from x.entry.first) × ((c.state.switch x.entry.from).stamp ≡ x.entry.version) × (a : Plan) × PlanOf w ds x.entry.version a × Leaves w a x.entry.from x.entry.first x.at x.last
      go x y = let c = ties.entries x.entry y.0 in (c.0, ap (λ (e : Entry). e.version) (sym c.1), s.plans x.entry.version, plan x.entry y.0, y.1)

  -- the entry of a call that was not refused
  entry_of : (b t : State) (i : ℕ) (q : Packet) (told : List Event) → (told ≡ Refused 2 ∷ [] → ⊥) → (c : Call) → c ≡ Enter i q → Enters w b t c told → Memᴰ (entry b i q) t.entries
  entry_of b t i q told n c e (nobody x f) = absurd (n (f i q e))
  entry_of b t i q told n c e (one j r k x) = let ej : i ≡ j = cc in let er : q ≡ r = cc in
      subst (Memᴰ (entry b i q)) (sym x) (Memᴰ.append_right b.entries (Memᴰ.head (ap (λ (n : ℕ). entry b n q) ej ∙ ap (entry b j) er)))

  due_kept : (before after : List Done) (i : ℕ) (q : Packet) (told : List Event) → ds ≡ before ++ (did (Enter i q) told ∷ after) → (told ≡ Refused 2 ∷ [] → ⊥) →
      (b : State) × Played w before b × (a : Plan) × PlanOf w ds (b.switch i).stamp a ×
      ((k : ℕ) (o : Packet) → Leaves w a i q k o → Told ds (Left i q (b.switch i).stamp k o) ⊎ (Coming w s.queue a.text (entry b i q) k o ⊎ ToldLost w ds a.text k o))
  due_kept before after i q told e n = (b, m.played, s.plans (b.switch i).stamp, plan (entry b i q) there, λ k o l. ⊎_elim (λ x. inl (ties.exits _ x)) (λ x. inr (⊎_elim inl (λ y. inr (lost k o y)) x)) (kept_whole.all (entry b i q) there k o l))
    where
      m : Moment w before (did (Enter i q) told) s
      m = moment w p before (did (Enter i q) told) after e

      b : State
      b = m.from

      there : Memᴰ (entry b i q) s.entries
      there = entries_stay w m.since (entry b i q) (entry_of b m.to i q told n (Enter i q) refl (enters_of w m.does))

      lost : (k : ℕ) (o : Packet) → Missed w s.fallen (s.plans (b.switch i).stamp).text (entry b i q) k o → ToldLost w ds (s.plans (b.switch i).stamp).text k o
      lost k o y = let r = ties.fallen y.f y.there in record { j = r.0; q = r.1; i = y.f.to; p = r.2; cable = r.3; what = y.f.what.frame; told = r.4; goes = y.goes }

  later_kept : (a b c : List Done) (i : ℕ) (q r : Packet) (es fs : List Event) → ds ≡ a ++ (did (Enter i q) es ∷ (b ++ (did (Enter i r) fs ∷ c))) →
      (x : State) × (y : State) × Played w a x × Played w (a ++ (did (Enter i q) es ∷ b)) y × ((x.switch i).stamp ≤ (y.switch i).stamp)
  later_kept a b c i q r es fs e = (n.from, m.from, n.played, m.played, (grown w (steps_trans w (steps_of w n.does) n.since) i).stamp)
    where
      m : Moment w (a ++ (did (Enter i q) es ∷ b)) (did (Enter i r) fs) s
      m = moment w p (a ++ (did (Enter i q) es ∷ b)) (did (Enter i r) fs) c (e ∙ sym (append_assoc a (did (Enter i q) es ∷ b) (did (Enter i r) fs ∷ c)))

      n : Moment w a (did (Enter i q) es) m.from
      n = moment w m.played a (did (Enter i q) es) b refl

  idle_kept : (d : Done) → Memᴰ d ds → (v : ℕ) → Memᴰ (Staged Idle v) d.told →
      (b : Behind w ds d) × ((i : ℕ) → i < w.switches → Holds b.state.plans i (λ u. u ≡ v) (b.state.switch i).held × ((b.state.switch i).stamp ≡ v))
  idle_kept d l v t = (
    record { before = x.0; after = x.1; is = x.2; state = m.to; played = then m.played m.does },
    λ i k. subst (λ (n : ℕ). Holds m.to.plans i (λ u. u ≡ n) (m.to.switch i).held × ((m.to.switch i).stamp ≡ n)) z.1 ((whole.promise w good m.to (steps_trans w (reach w m.played) (steps_of w m.does))).done z.0 i k),
  )
    where
      x : (front : List Done) × (rest : List Done) × (ds ≡ front ++ (d ∷ rest))
      x = mem_split d ds l

      m : Moment w x.0 d s
      m = moment w p x.0 d x.1 x.2

      z : (m.to.desk.stage ≡ Idle) × (m.to.desk.to ≡ v)
      z = idle_of w m.does v t

pub rehearsal : Rehearsal
rehearsal w good ds s p = record {
  left = left_kept w good p;
  due = due_kept w good p;
  stamped = (kept_whole w good p).stamped;
  met = (kept_whole w good p).met;
  later = later_kept w good p;
  idle = idle_kept w good p;
}
