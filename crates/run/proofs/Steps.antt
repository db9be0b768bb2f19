-- What a step does to the switches, to the desk with its plans and orders, and to the entries.
use Rattle.std.proofs.Common.{◌≡◌, ℕ, ◌+◌, ◌<◌, ◌≤◌, Bool, true, false, cond, T, eqb, ltb, ◌⊎◌, List, [], ◌∷◌, ◌++◌, Some, None, Option, sym, refl, ap, ◌∙◌, subst, inl, inr, ⊎_elim, le_trans, le_refl, arith, eqb→eq, ltb→lt}
use mathlib.Core.List.Memᴰ
use mathlib.Core.List.{Memᴰ}
use Rattle.packet.specs.Packet.{Packet, field}
use Rattle.run.specs.Net.{Net, Plan, GoodPlan, Outside}
use Rattle.run.specs.Switch.{Switch, Turn, take_packet, take_frame, take_mark, take_order}
use Rattle.run.specs.Desk.{Stage, Idle, Installing, Stamping, Flushing, Removing, Desk, last_version, Busy, heard, AllSeen, on_from, onwards, next_version, changed}
use Rattle.run.specs.Run.{Entry, Item, frame, mark, State, Step, enter, arrive, lose, order, hear, next, change, Steps, stay, more, with_switch, with_queue, with_plan, with_entry, turned, entry, entered, arrived, commanded}
use Rattle.run.proofs.Inv.{Grows}
use Rattle.run.proofs.Lists.{by_test, never, at_case}
use Rattle.run.proofs.Switches.{grows_refl, grows_trans, obey_grows, mark_grows}
use Rattle.run.proofs.Moves.{moves_add}

-- the desk is as it was, with its plans and orders
pub record Quiet (s t : State) : Type 0 where
  pub desk : t.desk ≡ s.desk
  pub plans : t.plans ≡ s.plans
  pub given : t.given ≡ s.given

-- what a step does to the desk
pub data Desks (w : Net) (s t : State) : Type 0 where
  quiet : Quiet s t → Desks w s t
  hears : (i : ℕ) → t.desk ≡ heard i s.desk → t.plans ≡ s.plans → t.given ≡ s.given → Desks w s t
  goes : Busy s.desk.stage → AllSeen w.switches s.desk → t ≡ commanded (onwards w.hops s.desk) s → Desks w s t
  begins : (a : Plan) → GoodPlan w a → s.desk.stage ≡ Idle → t ≡ commanded (changed (s.desk.to + 1) s.desk) (with_plan (s.desk.to + 1) a s) → Desks w s t

-- the version of a change is the next one
pub next_is : (d : Desk) (v : ℕ) → next_version d ≡ Some v → (v ≡ d.to + 1) × (d.to < last_version)
next_is d v e = go (ltb d.to last_version) (ltb→lt d.to last_version) e
  where
    go : (b : Bool) → (T b → d.to < last_version) → cond b (Some (d.to + 1)) None ≡ Some v → (v ≡ d.to + 1) × (d.to < last_version)
    go true l e = let f : d.to + 1 ≡ v = cc in (sym f, l tt)
    go false l e = never (cc)

pub turned_quiet : (i : ℕ) (of : Option Entry) (t : Turn) (s : State) → Quiet s (turned i of t s)
turned_quiet i of t s = let a = moves_add i of t.sends (with_switch i t.after s) in record { desk = a.desk; plans = a.plans; given = a.given }

-- s: the state before the item came off its cable
pub arrived_quiet : (w : Net) (j q i p : ℕ) (x : Item) (rest : List Item) (s : State) → Quiet s (arrived w i p x (with_queue j q rest s))
arrived_quiet w j q i p (frame c) rest s = let a = turned_quiet i (Some c.entry) (take_frame (w.wire i) c.frame (s.switch i)) (with_queue j q rest s) in record { desk = a.desk; plans = a.plans; given = a.given }
arrived_quiet w j q i p (mark k) rest s = let a = turned_quiet i None (take_mark p k (s.switch i)) (with_queue j q rest s) in record { desk = a.desk; plans = a.plans; given = a.given }

pub desks : (w : Net) {s t : State} → Step w s t → Desks w s t
desks w (enter s i l p n e) = let q = turned_quiet i (Some (entry s i p)) (take_packet w.hops (w.wire i) p (s.switch i)) (with_entry (entry s i p) s) in quiet (record { desk = q.desk; plans = q.plans; given = q.given })
desks w (arrive s j q i p e x rest m) = quiet (arrived_quiet w j q i p x rest s)
desks w (lose s j q i p e (frame c) front rest m) = quiet (record { desk = refl; plans = refl; given = refl })
desks w (lose s j q i p e (mark k) front rest m) = quiet (record { desk = refl; plans = refl; given = refl })
desks w (order s i l o m) = quiet (turned_quiet i None (take_order w.ports (w.wire i) o (s.switch i)) s)
desks w (hear s i l o m n) = hears i refl refl refl
desks w (next s b all) = goes b all refl
desks w (change s v a g idle room) = begins a g idle (ap (λ (n : ℕ). commanded (changed n s.desk) (with_plan n a s)) (next_is s.desk v room).0)

-- the plans that were brought stay
pub record Stays (s t : State) : Type 0 where
  pub to : s.desk.to ≤ t.desk.to
  pub plans : (v : ℕ) → v ≤ s.desk.to → s.plans v ≡ t.plans v

onwards_to : (h : ℕ) (d : Desk) (g : Stage) → d.to ≤ (on_from h d g).to
onwards_to h d Idle = le_refl d.to
onwards_to h d Installing = le_refl d.to
onwards_to h d Stamping = le_refl d.to
onwards_to h d (Flushing r) = le_refl d.to
onwards_to h d Removing = le_refl d.to

stays_of : (w : Net) (s t : State) → Desks w s t → Stays s t
stays_of w s t (quiet q) = record { to = subst (λ (d : Desk). s.desk.to ≤ d.to) (sym q.desk) (le_refl s.desk.to); plans = λ v l. ap (λ (f : ℕ → Plan). f v) (sym q.plans) }
stays_of w s t (hears i d p g) = record { to = subst (λ (d : Desk). s.desk.to ≤ d.to) (sym d) (le_refl s.desk.to); plans = λ v l. ap (λ (f : ℕ → Plan). f v) (sym p) }
stays_of w s t (goes b all e) = subst (Stays s) (sym e) (record { to = onwards_to w.hops s.desk s.desk.stage; plans = λ v l. refl })
stays_of w s t (begins a g idle e) = subst (Stays s) (sym e) (record {
  to = omega arith;
  plans = λ v l. by_test (λ (p : Plan). s.plans v ≡ p) (eqb v (s.desk.to + 1)) (λ b. let n = eqb→eq v (s.desk.to + 1) b in absurd (omega arith)) (λ _. refl);
})

pub stays : (w : Net) {s t : State} → Step w s t → Stays s t
stays w {s} {t} y = stays_of w s t (desks w y)

pub stayed : (w : Net) {s t : State} → Steps w s t → Stays s t
stayed w {s} stay = record { to = le_refl s.desk.to; plans = λ v l. refl }
stayed w (more r y) = let a = stayed w r in let b = stays w y in record { to = le_trans a.to b.to; plans = λ v l. a.plans v l ∙ b.plans v (le_trans l a.to) }

-- switches only go on
turned_grows : (i : ℕ) (of : Option Entry) (t : Turn) (s : State) → Grows (s.switch i) t.after → (n : ℕ) → Grows (s.switch n) ((turned i of t s).switch n)
turned_grows i of t s g n = subst (λ (f : ℕ → Switch). Grows (s.switch n) (f n)) (sym (moves_add i of t.sends (with_switch i t.after s)).switch) (at_case (λ n y. Grows (s.switch n) y) i g (λ n. grows_refl (s.switch n)) n)

pub grows : (w : Net) {s t : State} → Step w s t → (n : ℕ) → Grows (s.switch n) (t.switch n)
grows w (enter s i l p n e) = turned_grows i (Some (entry s i p)) (take_packet w.hops (w.wire i) p (s.switch i)) (with_entry (entry s i p) s) (grows_refl (s.switch i))
grows w (arrive s j q i p e (frame c) rest m) = turned_grows i (Some c.entry) (take_frame (w.wire i) c.frame (s.switch i)) (with_queue j q rest s) (grows_refl (s.switch i))
grows w (arrive s j q i p e (mark k) rest m) = turned_grows i None (take_mark p k (s.switch i)) (with_queue j q rest s) (mark_grows p k (s.switch i))
grows w (lose s j q i p e (frame c) front rest m) = λ n. grows_refl (s.switch n)
grows w (lose s j q i p e (mark k) front rest m) = λ n. grows_refl (s.switch n)
grows w (order s i l o m) = turned_grows i None (take_order w.ports (w.wire i) o (s.switch i)) s (obey_grows o (s.switch i))
grows w (hear s i l o m n) = λ n. grows_refl (s.switch n)
grows w (next s b all) = λ n. grows_refl (s.switch n)
grows w (change s v a g idle room) = λ n. grows_refl (s.switch n)

pub grown : (w : Net) {s t : State} → Steps w s t → (n : ℕ) → Grows (s.switch n) (t.switch n)
grown w {s} stay n = grows_refl (s.switch n)
grown w (more r y) n = grows_trans (grown w r n) (grows w y n)

-- a packet came in
pub record New (w : Net) (s t : State) : Type 0 where
  pub i : ℕ
  pub p : Packet
  pub here : i < w.switches
  pub outside : w.wire i (field 0 p) ≡ Outside
  pub is : t ≡ entered w i p s
  pub entries : t.entries ≡ s.entries ++ (entry s i p ∷ [])

pub turned_entries : (i : ℕ) (of : Option Entry) (t : Turn) (s : State) → (turned i of t s).entries ≡ s.entries
turned_entries i of t s = (moves_add i of t.sends (with_switch i t.after s)).entries

pub entries_of : (w : Net) {s t : State} → Step w s t → (t.entries ≡ s.entries) ⊎ New w s t
entries_of w (enter s i l p n e) = inr (record { i = i; p = p; here = l; outside = e; is = refl; entries = turned_entries i (Some (entry s i p)) (take_packet w.hops (w.wire i) p (s.switch i)) (with_entry (entry s i p) s) })
entries_of w (arrive s j q i p e (frame c) rest m) = inl (turned_entries i (Some c.entry) (take_frame (w.wire i) c.frame (s.switch i)) (with_queue j q rest s))
entries_of w (arrive s j q i p e (mark k) rest m) = inl (turned_entries i None (take_mark p k (s.switch i)) (with_queue j q rest s))
entries_of w (lose s j q i p e (frame c) front rest m) = inl refl
entries_of w (lose s j q i p e (mark k) front rest m) = inl refl
entries_of w (order s i l o m) = inl (turned_entries i None (take_order w.ports (w.wire i) o (s.switch i)) s)
entries_of w (hear s i l o m n) = inl refl
entries_of w (next s b all) = inl refl
entries_of w (change s v a g idle room) = inl refl

-- what came in stays
pub entries_stay : (w : Net) {s t : State} → Steps w s t → (e : Entry) → Memᴰ e s.entries → Memᴰ e t.entries
entries_stay w stay e m = m
entries_stay w (more r y) e m = ⊎_elim (λ x. subst (Memᴰ e) (sym x) (entries_stay w r e m)) (λ n. subst (Memᴰ e) (sym n.entries) (Memᴰ.append_left _ (entries_stay w r e m))) (entries_of w y)
