-- What a call does is a row of steps, and what it tells is what the steps did.
use Rattle.std.proofs.Common.{◌≡◌, ℕ, zero, suc, ◌+◌, ◌≤◌, eqb, ◌⊎◌, List, [], ◌∷◌, ◌++◌, map, Some, None, Option, sym, refl, ap, ◌∙◌, subst, inl, inr, ⊎_elim, append-nil, arith, eqb→eq}
use mathlib.Core.List.Memᴰ
use mathlib.Core.List.{Memᴰ}
use Rattle.packet.specs.Packet.{Packet}
use Rattle.run.specs.Net.{Plan, Net, Cable}
use Rattle.run.specs.Order as lead
use Rattle.run.specs.Order.{Answer}
use Rattle.run.specs.Switch.{Switch, Message, Reply, MarkOn, FrameOn, Leave, Turn, take_order, take_frame, take_mark, take_packet}
use Rattle.run.specs.Desk.{Stage, Idle, Installing, Stamping, Flushing, Removing, Desk, Busy, heard, on_from, onwards}
use Rattle.run.specs.Run.{Entry, frame, mark, Exit, Fallen, State, Step, enter, arrive, lose, order, hear, next, change, Steps, stay, more, with_switch, with_queue, with_desk, with_entry, turned, entry, ordered}
use Rattle.run.specs.Past.{awaited_in, awaited, order_for}
use Rattle.run.specs.Calls.{Call, Enter, Change, Event, Left, LostFrame, LostMark, Staged, Refused, Impossible, left_of, about, staged_of, shown_of, shown_to, WasSaid, Does, enters, kept_out, arrives, none_arrives, loses, none_to_lose, orders, never_given, hears, goes_on, not_awaited, never_said, changes, too_early, no_version, refuses, shows}
use Rattle.run.proofs.Lists.{by_test, never, neqb, snoc_cases}
use Rattle.run.proofs.Moves.{leaving, moves_add}
use Rattle.run.proofs.Asked.{is_wanted, answer_for}
use Rattle.run.proofs.Steps.{Quiet, turned_quiet, arrived_quiet, turned_entries, next_is}

-- a desk that waits for an answer has a change under way
busy : (from to : ℕ) (g : Stage) (a : Answer) → Memᴰ a (awaited_in from to g) → Busy g
busy from to Idle a m = elim m [ ]
busy from to Installing a m = tt
busy from to Stamping a m = tt
busy from to (Flushing r) a m = tt
busy from to Removing a m = tt

-- the answer that it waits for is heard
hear_it : (w : Net) (s : State) (i : ℕ) (a : Answer) → WasSaid w s i a → Memᴰ a (awaited s.desk) → Step w s (with_desk (heard i s.desk) s)
hear_it w s i a m n = hear s i m.0 (order_for s.plans i a) (is_wanted s.plans i s.desk.from s.desk.to s.desk.stage a n) (subst (λ (b : Answer). Memᴰ b (s.answered i)) (sym (answer_for s.plans i a)) m.1)

pub steps_of : (w : Net) {s t : State} {c : Call} {es : List Event} → Does w s c es t → Steps w s t
steps_of w {s} (enters i p e xs x) = more stay (enter s i e.there p e.packet e.outside)
steps_of w (kept_out i p n) = stay
steps_of w {s} (arrives j q i p c x rest e xs y) = more stay (arrive s j q i p c x rest e)
steps_of w (none_arrives j q e) = stay
steps_of w {s} (loses j q i p c x rest e) = more stay (lose s j q i p c x [] rest e)
steps_of w (none_to_lose j q e) = stay
steps_of w {s} (orders i a l o m e) = more stay (order s i l o m)
steps_of w (never_given i a n) = stay
steps_of w {s} (hears i a m n k) = more stay (hear_it w s i a m n)
steps_of w {s} (goes_on i a m n all) = more (more stay (hear_it w s i a m n)) (next (with_desk (heard i s.desk) s) (busy s.desk.from s.desk.to s.desk.stage a n) all)
steps_of w (not_awaited i a m n) = stay
steps_of w (never_said i a n) = stay
steps_of w {s} (changes a g idle v e) = more stay (change s v a g idle e)
steps_of w (too_early a b) = stay
steps_of w (no_version a idle e) = stay
steps_of w (refuses n) = stay
steps_of w shows = stay

pub steps_trans : (w : Net) {r s t : State} → Steps w r s → Steps w s t → Steps w r t
steps_trans w a stay = a
steps_trans w a (more b y) = more (steps_trans w a b) y

-- What leaves is told, and nothing else is told to have left.
pub record Exits (s t : State) (es : List Event) : Type 0 where
  pub more : List Exit
  pub is : t.exits ≡ s.exits ++ more
  pub told : (x : Exit) → Memᴰ x more → Memᴰ (left_of x) es
  pub only : (i : ℕ) (p : Packet) (v k : ℕ) (o : Packet) → Memᴰ (Left i p v k o) es → (x : Exit) × Memᴰ x more × (left_of x ≡ Left i p v k o)

mem_map : {A B : Type 0} (f : A → B) (x : A) (xs : List A) → Memᴰ x xs → Memᴰ (f x) (map f xs)
mem_map f x [] m = elim m [ ]
mem_map f x (y ∷ ys) m = ⊎_elim (λ e. Memᴰ.head (ap f e)) (λ n. Memᴰ.tail (mem_map f x ys n)) (Memᴰ.cases_cons m)

map_mem : {A B : Type 0} (f : A → B) (y : B) (xs : List A) → Memᴰ y (map f xs) → (x : A) × Memᴰ x xs × (f x ≡ y)
map_mem f y [] m = elim m [ ]
map_mem f y (x ∷ xs) m = ⊎_elim (λ e. (x, Memᴰ.head refl, sym e)) (λ n. let z = map_mem f y xs n in (z.0, Memᴰ.tail z.1, z.2)) (Memᴰ.cases_cons m)

left : (s t : State) (xs : List Exit) → t.exits ≡ s.exits ++ xs → Exits s t (map left_of xs)
left s t xs e = record { more = xs; is = e; told = λ x m. mem_map left_of x xs m; only = λ i p v k o m. map_mem left_of (Left i p v k o) xs m }

-- one event is told, which is none that something left
stays_in : (s t : State) (y : Event) → t.exits ≡ s.exits → ((i : ℕ) (p : Packet) (v k : ℕ) (o : Packet) → Left i p v k o ≡ y → ◌≡◌ {A = ℕ} 0 1) → Exits s t (y ∷ [])
stays_in s t y e f = record { more = []; is = e ∙ sym (append-nil s.exits); told = λ x m. elim m [ ]; only = λ i p v k o m. never (f i p v k o (Memᴰ.eq_of_singleton m)) }

nothing : (s t : State) → t.exits ≡ s.exits → Exits s t []
nothing s t e = record { more = []; is = e ∙ sym (append-nil s.exits); told = λ x m. elim m [ ]; only = λ i p v k o m. elim m [ ] }

-- what is shown is neither
shown_only : (n : ℕ) (f : ℕ → Switch) (y : Event) → Memᴰ y (shown_to n f) → (i : ℕ) × (y ≡ shown_of i (f i))
unfolding shown_to
shown_only zero f y m = elim m [ ]
shown_only (suc n) f y m = ⊎_elim (shown_only n f y) (λ z. (n, Memᴰ.eq_of_singleton z)) (Memᴰ.append_cases (shown_to n f) m)

-- an order lets nothing leave
leaves_none : (i : ℕ) (ms : List Message) → leaving i None ms ≡ []
unfolding leaving
leaves_none i [] = refl
leaves_none i (Reply o ∷ ms) = leaves_none i ms
leaves_none i (MarkOn p k ∷ ms) = leaves_none i ms
leaves_none i (FrameOn p f ∷ ms) = leaves_none i ms
leaves_none i (Leave o ∷ ms) = leaves_none i ms

order_exits : (w : Net) (s : State) (i : ℕ) (o : lead.Order) → (ordered w i o s).exits ≡ s.exits
order_exits w s i o = let t = take_order w.ports (w.wire i) o (s.switch i) in (moves_add i None t.sends (with_switch i t.after s)).exits ∙ ap (λ (xs : List Exit). s.exits ++ xs) (leaves_none i t.sends) ∙ append-nil s.exits

pub exits_of : (w : Net) {s t : State} {c : Call} {es : List Event} → Does w s c es t → Exits s t es
exits_of w {s} {t} (enters i p e xs x) = left s t xs x
exits_of w {s} {t} (kept_out i p n) = stays_in s t (Refused 2) refl (λ i p v k o e. cc)
exits_of w {s} {t} (arrives j q i p c x rest e xs y) = left s t xs y
exits_of w {s} {t} (none_arrives j q e) = stays_in s t Impossible refl (λ i p v k o e. cc)
exits_of w {s} {t} (loses j q i p c (frame x) rest e) = stays_in s t (LostFrame j q x.frame) refl (λ i p v k o e. cc)
exits_of w {s} {t} (loses j q i p c (mark x) rest e) = stays_in s t (LostMark j q x) refl (λ i p v k o e. cc)
exits_of w {s} {t} (none_to_lose j q e) = stays_in s t Impossible refl (λ i p v k o e. cc)
exits_of w {s} {t} (orders i a l o m e) = nothing s t (order_exits w s i o)
exits_of w {s} {t} (never_given i a n) = stays_in s t Impossible refl (λ i p v k o e. cc)
exits_of w {s} {t} (hears i a m n k) = nothing s t refl
exits_of w {s} {t} (goes_on i a m n all) = stays_in s t (staged_of (onwards w.hops (heard i s.desk))) refl (λ i p v k o e. cc)
exits_of w {s} {t} (not_awaited i a m n) = stays_in s t (Refused 11) refl (λ i p v k o e. cc)
exits_of w {s} {t} (never_said i a n) = stays_in s t Impossible refl (λ i p v k o e. cc)
exits_of w {s} {t} (changes a g idle v e) = stays_in s t (Staged Installing v) refl (λ i p v k o e. cc)
exits_of w {s} {t} (too_early a b) = stays_in s t (Refused 9) refl (λ i p v k o e. cc)
exits_of w {s} {t} (no_version a idle e) = stays_in s t (Refused 10) refl (λ i p v k o e. cc)
exits_of w {s} {t} (refuses n) = stays_in s t (Refused n) refl (λ i p v k o e. cc)
exits_of w {s} {t} shows = record { more = []; is = sym (append-nil s.exits); told = λ x m. elim m [ ]; only = λ i p v k o m. let z = (shown_only w.switches s.switch (Left i p v k o) m).1 in never (cc) }

-- A frame that falls is told to be lost.
abbrev Falls : Net → State → State → List Event → Type 0
Falls w s t es = (f : Fallen) → Memᴰ f t.fallen → Memᴰ f s.fallen ⊎ ((j : ℕ) × (q : ℕ) × (p : ℕ) × Cable w j q f.to p × Memᴰ (LostFrame j q f.what.frame) es)

same_fallen : (w : Net) (s t : State) (es : List Event) → t.fallen ≡ s.fallen → Falls w s t es
same_fallen w s t es e f m = inl (subst (Memᴰ f) e m)

turned_fallen : (i : ℕ) (of : Option Entry) (t : Turn) (s : State) → (turned i of t s).fallen ≡ s.fallen
turned_fallen i of t s = (moves_add i of t.sends (with_switch i t.after s)).fallen

pub fallen_of : (w : Net) {s t : State} {c : Call} {es : List Event} → Does w s c es t → Falls w s t es
fallen_of w {s} {t} (enters i p e xs x) = same_fallen w s t (map left_of xs) (turned_fallen i (Some (entry s i p)) (take_packet w.hops (w.wire i) p (s.switch i)) (with_entry (entry s i p) s))
fallen_of w {s} {t} {c} {es} (kept_out i p n) = same_fallen w s t es refl
fallen_of w {s} {t} (arrives j q i p c (frame x) rest e xs y) = same_fallen w s t (map left_of xs) (turned_fallen i (Some x.entry) (take_frame (w.wire i) x.frame (s.switch i)) (with_queue j q rest s))
fallen_of w {s} {t} (arrives j q i p c (mark x) rest e xs y) = same_fallen w s t (map left_of xs) (turned_fallen i None (take_mark p x (s.switch i)) (with_queue j q rest s))
fallen_of w {s} {t} {c} {es} (none_arrives j q e) = same_fallen w s t es refl
fallen_of w {s} {t} (loses j q i p c (frame x) rest e) = λ f m. ⊎_elim inl (λ z. inr (j, q, p, subst (λ (f : Fallen). Cable w j q f.to p) (sym z) c, Memᴰ.head (ap (λ (f : Fallen). LostFrame j q f.what.frame) z))) (snoc_cases s.fallen m)
fallen_of w {s} {t} {c} {es} (loses j q i p d (mark x) rest e) = same_fallen w s t es refl
fallen_of w {s} {t} {c} {es} (none_to_lose j q e) = same_fallen w s t es refl
fallen_of w {s} {t} (orders i a l o m e) = same_fallen w s t [] (turned_fallen i None (take_order w.ports (w.wire i) o (s.switch i)) s)
fallen_of w {s} {t} {c} {es} (never_given i a n) = same_fallen w s t es refl
fallen_of w {s} {t} {c} {es} (hears i a m n k) = same_fallen w s t es refl
fallen_of w {s} {t} {c} {es} (goes_on i a m n all) = same_fallen w s t es refl
fallen_of w {s} {t} {c} {es} (not_awaited i a m n) = same_fallen w s t es refl
fallen_of w {s} {t} {c} {es} (never_said i a n) = same_fallen w s t es refl
fallen_of w {s} {t} {c} {es} (changes a g idle v e) = same_fallen w s t es refl
fallen_of w {s} {t} {c} {es} (too_early a b) = same_fallen w s t es refl
fallen_of w {s} {t} {c} {es} (no_version a idle e) = same_fallen w s t es refl
fallen_of w {s} {t} {c} {es} (refuses n) = same_fallen w s t es refl
fallen_of w {s} {t} {c} {es} shows = same_fallen w s t es refl

-- A version that is new has the plan that was brought.
abbrev Brings : State → State → Call → List Event → Type 0
Brings s t c es = (v : ℕ) → v ≤ t.desk.to → ((v ≤ s.desk.to) × (t.plans v ≡ s.plans v)) ⊎ ((c ≡ Change (t.plans v)) × (es ≡ Staged Installing v ∷ []))

-- no change begins
no_plan : (s t : State) (c : Call) (es : List Event) → t.desk.to ≡ s.desk.to → t.plans ≡ s.plans → Brings s t c es
no_plan s t c es d p v l = inl (subst (λ (n : ℕ). v ≤ n) d l, ap (λ (f : ℕ → Plan). f v) p)

quiet_plan : {s t : State} (c : Call) (es : List Event) → Quiet s t → Brings s t c es
quiet_plan {s} {t} c es q = no_plan s t c es (ap (λ (d : Desk). d.to) q.desk) q.plans

-- the desk's going on leaves its new version
pub to_same : (h : ℕ) (d : Desk) (g : Stage) → (on_from h d g).to ≡ d.to
to_same h d Idle = refl
to_same h d Installing = refl
to_same h d Stamping = refl
to_same h d (Flushing r) = refl
to_same h d Removing = refl

pub plans_of : (w : Net) {s t : State} {c : Call} {es : List Event} → Does w s c es t → Brings s t c es
plans_of w {s} {t} {c} {es} (enters i p e xs x) = let q = turned_quiet i (Some (entry s i p)) (take_packet w.hops (w.wire i) p (s.switch i)) (with_entry (entry s i p) s) in no_plan s t c es (ap (λ (d : Desk). d.to) q.desk) q.plans
plans_of w {s} {t} {c} {es} (kept_out i p n) = no_plan s t c es refl refl
plans_of w {s} {t} {c} {es} (arrives j q i p d x rest e xs y) = quiet_plan c es (arrived_quiet w j q i p x rest s)
plans_of w {s} {t} {c} {es} (none_arrives j q e) = no_plan s t c es refl refl
plans_of w {s} {t} {c} {es} (loses j q i p d (frame x) rest e) = no_plan s t c es refl refl
plans_of w {s} {t} {c} {es} (loses j q i p d (mark x) rest e) = no_plan s t c es refl refl
plans_of w {s} {t} {c} {es} (none_to_lose j q e) = no_plan s t c es refl refl
plans_of w {s} {t} {c} {es} (orders i a l o m e) = quiet_plan c es (turned_quiet i None (take_order w.ports (w.wire i) o (s.switch i)) s)
plans_of w {s} {t} {c} {es} (never_given i a n) = no_plan s t c es refl refl
plans_of w {s} {t} {c} {es} (hears i a m n k) = no_plan s t c es refl refl
plans_of w {s} {t} {c} {es} (goes_on i a m n all) = no_plan s t c es (to_same w.hops (heard i s.desk) s.desk.stage) refl
plans_of w {s} {t} {c} {es} (not_awaited i a m n) = no_plan s t c es refl refl
plans_of w {s} {t} {c} {es} (never_said i a n) = no_plan s t c es refl refl
plans_of w {s} {t} {c} {es} (changes a g idle v e) = λ u l. let n = (next_is s.desk v e).0 in ⊎_elim
    (λ k. inl (k, by_test (λ (p : Plan). p ≡ s.plans u) (eqb u v) (λ b. let z = eqb→eq u v b in absurd (omega arith)) (λ _. refl)))
    (λ k. inr (ap Change (by_test (λ (p : Plan). a ≡ p) (eqb u v) (λ _. refl) (λ b. absurd (neqb u v b (k ∙ sym n)))), ap (λ (n : ℕ). Staged Installing n ∷ []) (n ∙ sym k))) (up u (subst (λ (m : ℕ). u ≤ m) n l))
  where
    up : (u : ℕ) → u ≤ s.desk.to + 1 → (u ≤ s.desk.to) ⊎ (u ≡ s.desk.to + 1)
    up u l = grind arith
plans_of w {s} {t} {c} {es} (too_early a b) = no_plan s t c es refl refl
plans_of w {s} {t} {c} {es} (no_version a idle e) = no_plan s t c es refl refl
plans_of w {s} {t} {c} {es} (refuses n) = no_plan s t c es refl refl
plans_of w {s} {t} {c} {es} shows = no_plan s t c es refl refl

-- A call that is no entering lets nobody in, and one that is lets in its packet.
pub data Enters (w : Net) (s t : State) : Call → List Event → Type 0 where
  nobody : {c : Call} {es : List Event} → t.entries ≡ s.entries → ((i : ℕ) (p : Packet) → c ≡ Enter i p → es ≡ Refused 2 ∷ []) → Enters w s t c es
  one : {c : Call} {es : List Event} (i : ℕ) (p : Packet) → c ≡ Enter i p → t.entries ≡ s.entries ++ (entry s i p ∷ []) → Enters w s t c es

none_in : (w : Net) (s t : State) (c : Call) (es : List Event) → t.entries ≡ s.entries → ((i : ℕ) (p : Packet) → c ≡ Enter i p → ◌≡◌ {A = ℕ} 0 1) → Enters w s t c es
none_in w s t c es e f = nobody e (λ i p x. never (f i p x))

pub enters_of : (w : Net) {s t : State} {c : Call} {es : List Event} → Does w s c es t → Enters w s t c es
enters_of w {s} (enters i p e xs x) = one i p refl (turned_entries i (Some (entry s i p)) (take_packet w.hops (w.wire i) p (s.switch i)) (with_entry (entry s i p) s))
enters_of w (kept_out i p n) = nobody refl (λ i p e. refl)
enters_of w {s} {t} {c} {es} (arrives j q i p d (frame x) rest e xs y) = none_in w s t c es (turned_entries i (Some x.entry) (take_frame (w.wire i) x.frame (s.switch i)) (with_queue j q rest s)) (λ i p e. cc)
enters_of w {s} {t} {c} {es} (arrives j q i p d (mark x) rest e xs y) = none_in w s t c es (turned_entries i None (take_mark p x (s.switch i)) (with_queue j q rest s)) (λ i p e. cc)
enters_of w {s} {t} {c} {es} (none_arrives j q e) = none_in w s t c es refl (λ i p e. cc)
enters_of w {s} {t} {c} {es} (loses j q i p d (frame x) rest e) = none_in w s t c es refl (λ i p e. cc)
enters_of w {s} {t} {c} {es} (loses j q i p d (mark x) rest e) = none_in w s t c es refl (λ i p e. cc)
enters_of w {s} {t} {c} {es} (none_to_lose j q e) = none_in w s t c es refl (λ i p e. cc)
enters_of w {s} {t} {c} {es} (orders i a l o m e) = none_in w s t c es (turned_entries i None (take_order w.ports (w.wire i) o (s.switch i)) s) (λ i p e. cc)
enters_of w {s} {t} {c} {es} (never_given i a n) = none_in w s t c es refl (λ i p e. cc)
enters_of w {s} {t} {c} {es} (hears i a m n k) = none_in w s t c es refl (λ i p e. cc)
enters_of w {s} {t} {c} {es} (goes_on i a m n all) = none_in w s t c es refl (λ i p e. cc)
enters_of w {s} {t} {c} {es} (not_awaited i a m n) = none_in w s t c es refl (λ i p e. cc)
enters_of w {s} {t} {c} {es} (never_said i a n) = none_in w s t c es refl (λ i p e. cc)
enters_of w {s} {t} {c} {es} (changes a g idle v e) = none_in w s t c es refl (λ i p e. cc)
enters_of w {s} {t} {c} {es} (too_early a b) = none_in w s t c es refl (λ i p e. cc)
enters_of w {s} {t} {c} {es} (no_version a idle e) = none_in w s t c es refl (λ i p e. cc)
enters_of w {s} {t} {c} {es} (refuses n) = none_in w s t c es refl (λ i p e. cc)
enters_of w {s} {t} {c} {es} shows = none_in w s t c es refl (λ i p e. cc)

-- Where idle is told, the desk is idle with that version.
abbrev Idles : State → List Event → Type 0
Idles t es = (v : ℕ) → Memᴰ (Staged Idle v) es → (t.desk.stage ≡ Idle) × (t.desk.to ≡ v)

other : (t : State) (y : Event) → ((v : ℕ) → Staged Idle v ≡ y → ◌≡◌ {A = ℕ} 0 1) → Idles t (y ∷ [])
other t y f v m = never (f v (Memᴰ.eq_of_singleton m))

left_only : (t : State) (xs : List Exit) → Idles t (map left_of xs)
left_only t xs v m = let z = (map_mem left_of (Staged Idle v) xs m).2 in never (cc)

pub idle_of : (w : Net) {s t : State} {c : Call} {es : List Event} → Does w s c es t → Idles t es
idle_of w {s} {t} (enters i p e xs x) = left_only t xs
idle_of w {s} {t} (kept_out i p n) = other t (Refused 2) (λ v e. cc)
idle_of w {s} {t} (arrives j q i p d x rest e xs y) = left_only t xs
idle_of w {s} {t} (none_arrives j q e) = other t Impossible (λ v e. cc)
idle_of w {s} {t} (loses j q i p d (frame x) rest e) = other t (LostFrame j q x.frame) (λ v e. cc)
idle_of w {s} {t} (loses j q i p d (mark x) rest e) = other t (LostMark j q x) (λ v e. cc)
idle_of w {s} {t} (none_to_lose j q e) = other t Impossible (λ v e. cc)
idle_of w {s} {t} (orders i a l o m e) = λ v m. elim m [ ]
idle_of w {s} {t} (never_given i a n) = other t Impossible (λ v e. cc)
idle_of w {s} {t} (hears i a m n k) = λ v m. elim m [ ]
idle_of w {s} {t} (goes_on i a m n all) = λ v z. go (onwards w.hops (heard i s.desk)) v (Memᴰ.eq_of_singleton z)
  where
    go : (d : Desk) (v : ℕ) → Staged Idle v ≡ staged_of d → (d.stage ≡ Idle) × (d.to ≡ v)
    go d v e = let g : d.stage ≡ Idle = cc in let u : about d d.stage ≡ v = cc in (g, subst (λ (x : Stage). about d x ≡ v) g u)
idle_of w {s} {t} (not_awaited i a m n) = other t (Refused 11) (λ v e. cc)
idle_of w {s} {t} (never_said i a n) = other t Impossible (λ v e. cc)
idle_of w {s} {t} (changes a g idle v e) = other t (Staged Installing v) (λ v e. cc)
idle_of w {s} {t} (too_early a b) = other t (Refused 9) (λ v e. cc)
idle_of w {s} {t} (no_version a idle e) = other t (Refused 10) (λ v e. cc)
idle_of w {s} {t} (refuses n) = other t (Refused n) (λ v e. cc)
idle_of w {s} {t} shows = λ v m. let z = (shown_only w.switches s.switch (Staged Idle v) m).1 in never (cc)
