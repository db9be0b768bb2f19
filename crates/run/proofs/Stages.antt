-- The stages of a change: what leaves the desk in its stage, and that the stages follow each other to the end.
use Rattle.std.proofs.Common.{◌≡◌, ℕ, zero, suc, ◌+◌, ◌≤◌, T, ltb, ◌⊎◌, List, sym, refl, ap, ◌∙◌, subst, inl, inr, arith, ltb→lt}
use mathlib.Core.List.Memᴰ
use mathlib.Core.List.{Memᴰ}
use Rattle.packet.specs.Table.{Table}
use Rattle.run.specs.Net.{Net, Plan}
use Rattle.run.specs.Order.{Order, Install, Stamp, Round, Remove}
use Rattle.run.specs.Desk.{Stage, Idle, Installing, Stamping, Flushing, Removing, Desk, Busy, orders_in, heard, after_round, on_from, onwards}
use Rattle.run.specs.Run.{State, Step, stay, more, Reach, with_desk, wanted}
use Rattle.run.proofs.Lists.{by_test, never, at_case}
use Rattle.run.proofs.Steps.{Quiet, Desks, quiet, hears, goes, begins, desks}

-- the desk stays in its stage
pub record Stay (s t : State) : Type 0 where
  pub from : s.desk.from ≡ t.desk.from
  pub to : s.desk.to ≡ t.desk.to
  pub stage : s.desk.stage ≡ t.desk.stage
  pub seen : (i : ℕ) → T (s.desk.seen i) → T (t.desk.seen i)
  pub wants : (i : ℕ) → wanted s s.desk i ≡ wanted t t.desk i

pub stay_refl : (s : State) → Stay s s
stay_refl s = record { from = refl; to = refl; stage = refl; seen = λ i t. t; wants = λ i. refl }

pub stay_trans : {r s t : State} → Stay r s → Stay s t → Stay r t
stay_trans a b = record { from = a.from ∙ b.from; to = a.to ∙ b.to; stage = a.stage ∙ b.stage; seen = λ i y. b.seen i (a.seen i y); wants = λ i. a.wants i ∙ b.wants i }

-- what the desk has of a state with plans p
same_desk : (s t : State) → t.desk ≡ s.desk → t.plans ≡ s.plans → Stay s t
same_desk s t d p = record {
  from = ap (λ (x : Desk). x.from) (sym d);
  to = ap (λ (x : Desk). x.to) (sym d);
  stage = ap (λ (x : Desk). x.stage) (sym d);
  seen = λ i. subst (λ (x : Desk). T (s.desk.seen i) → T (x.seen i)) (sym d) (λ z. z);
  wants = λ i. ap (λ (f : ℕ → Plan). wanted_by f s.desk i) (sym p) ∙ ap (λ (x : Desk). wanted_by t.plans x i) (sym d);
}
  where
    wanted_by : (ℕ → Plan) → Desk → ℕ → List Order
    wanted_by f x i = orders_in x.from x.to ((f x.to).table i) x.stage

pub stay_quiet : {s t : State} → Quiet s t → Stay s t
stay_quiet {s} {t} q = same_desk s t q.desk q.plans

pub stay_heard : (s : State) (i : ℕ) → Stay s (with_desk (heard i s.desk) s)
stay_heard s i = record { from = refl; to = refl; stage = refl; seen = at_case (λ n b. T (s.desk.seen n) → T b) i (λ _. tt) (λ n z. z); wants = λ n. refl }

-- a step leaves the desk in its stage, or it is the one in which the desk goes on
pub desk_step : (w : Net) {s t : State} → Step w s t → Busy s.desk.stage → Stay s t ⊎ (t.desk ≡ onwards w.hops s.desk)
desk_step w {s} {t} y b = go (desks w y)
  where
    go : Desks w s t → Stay s t ⊎ (t.desk ≡ onwards w.hops s.desk)
    go (quiet q) = inl (stay_quiet q)
    go (hears i d p g) = inl (stay_trans (stay_heard s i) (same_desk (with_desk (heard i s.desk) s) t d p))
    go (goes z all e) = inr (ap (λ (x : State). x.desk) e)
    go (begins a g idle e) = absurd (subst Busy idle b)

-- that is another stage
after_round_lem : (h r : ℕ) → (Flushing r ≡ after_round h r → ⊥) × (Stamping ≡ after_round h r → ⊥)
after_round_lem h r = (
  by_test (λ (g : Stage). Flushing r ≡ g → ⊥) (ltb r h) (λ _ e. let x : r ≡ r + 1 = cc in omega arith) (λ _ e. never (cc)),
  by_test (λ (g : Stage). Stamping ≡ g → ⊥) (ltb r h) (λ _ e. never (cc)) (λ _ e. never (cc)),
)

pub next_stage : (h : ℕ) (d : Desk) (g : Stage) → Busy g → g ≡ (on_from h d g).stage → ⊥
next_stage h d Idle b e = b
next_stage h d Installing b e = never (cc)
next_stage h d Stamping b e = (after_round_lem h 0).1 e
next_stage h d (Flushing r) b e = (after_round_lem h r).0 e
next_stage h d Removing b e = never (cc)

-- a stage of a change has an order
pub stage_order : (from to : ℕ) (t : Table) (g : Stage) → Busy g → (o : Order) × Memᴰ o (orders_in from to t g)
stage_order from to t Idle b = absurd b
stage_order from to t Installing b = (Install to t, Memᴰ.head refl)
stage_order from to t Stamping b = (Stamp to, Memᴰ.head refl)
stage_order from to t (Flushing r) b = (Round to r, Memᴰ.head refl)
stage_order from to t Removing b = (Remove from, Memᴰ.head refl)

-- what the desk waits for has been given
pub given_all : (w : Net) {s : State} → Reach w s → Busy s.desk.stage → (i : ℕ) (o : Order) → Memᴰ o (wanted s s.desk i) → Memᴰ o (s.given i)
given_all w stay b i o m = absurd b
given_all w (more {t = s} {u = t} r y) b i o m = go (desks w y) (given_all w r)
  where
    go : Desks w s t → (Busy s.desk.stage → (i : ℕ) (o : Order) → Memᴰ o (wanted s s.desk i) → Memᴰ o (s.given i)) → Memᴰ o (t.given i)
    go (quiet q) h = let z = stay_quiet q in subst (λ (f : ℕ → List Order). Memᴰ o (f i)) (sym q.given) (h (subst Busy (sym z.stage) b) i o (subst (Memᴰ o) (sym (z.wants i)) m))
    go (hears n d p g) h = let z = stay_trans (stay_heard s n) (same_desk (with_desk (heard n s.desk) s) t d p) in
        subst (λ (f : ℕ → List Order). Memᴰ o (f i)) (sym g) (h (subst Busy (sym z.stage) b) i o (subst (Memᴰ o) (sym (z.wants i)) m))
    go (goes c all e) h = subst (λ (x : State). Memᴰ o (x.given i)) (sym e) (Memᴰ.append_right (s.given i) (subst (λ (x : State). Memᴰ o (wanted x x.desk i)) e m))
    go (begins a g idle e) h = subst (λ (x : State). Memᴰ o (x.given i)) (sym e) (Memᴰ.append_right (s.given i) (subst (λ (x : State). Memᴰ o (wanted x x.desk i)) e m))

-- d is e but for who has answered
pub record Alike (d e : Desk) : Type 0 where
  pub from : d.from ≡ e.from
  pub to : d.to ≡ e.to
  pub stage : d.stage ≡ e.stage

-- From stage to stage to the end. x: a place in a run, with its desk; R: y is behind x; step: behind each place the desk goes on
module _ (h : ℕ) (X : Type 0) (desk : X → Desk) (R : X → X → Type 0) (trans : (x y z : X) → R x y → R y z → R x z)
    (step : (x : X) → Busy (desk x).stage → (y : X) × R x y × Alike (desk y) (onwards h (desk x))) where
  abbrev End : X → Type 0
  End x = (y : X) × R x y × ((desk y).stage ≡ Idle) × ((desk y).from ≡ (desk x).to)

  -- the next stage, from stage g
  after : (x : X) (g : Stage) → (desk x).stage ≡ g → Busy g → (y : X) × R x y × Alike (desk y) (on_from h (desk x) g)
  after x g e b = let y = step x (subst Busy (sym e) b) in (y.0, y.1, subst (λ (n : Stage). Alike (desk y.0) (on_from h (desk x) n)) e y.2)

  removing : (x : X) → (desk x).stage ≡ Removing → End x
  removing x e = let y = after x Removing e tt in (y.0, y.1, y.2.stage, y.2.from)

  end_more : (x y : X) → R x y → (desk y).to ≡ (desk x).to → End y → End x
  end_more x y r e z = (z.0, trans x y z.0 r z.1, z.2, z.3 ∙ e)

  rounds : (k : ℕ) (x : X) (r : ℕ) → (desk x).stage ≡ after_round h r → h ≤ r + k → End x
  rounds zero x r e l = by_test (λ (g : Stage). (desk x).stage ≡ g → End x) (ltb r h) (λ t. let n = ltb→lt r h t in absurd (omega arith)) (λ _. removing x) e
  rounds (suc k) x r e l = by_test (λ (g : Stage). (desk x).stage ≡ g → End x) (ltb r h)
      (λ _ f. let y = after x (Flushing (r + 1)) f tt in end_more x y.0 y.1 y.2.to (rounds k y.0 (r + 1) y.2.stage (omega arith))) (λ _. removing x) e

  stamping : (x : X) → (desk x).stage ≡ Stamping → End x
  stamping x e = let y = after x Stamping e tt in end_more x y.0 y.1 y.2.to (rounds h y.0 0 y.2.stage (omega arith))

  pub to_the_end : (x : X) → Busy (desk x).stage → (y : X) × R x y × ((desk y).stage ≡ Idle) × ((desk y).from ≡ (desk x).to)
  to_the_end x b = go (desk x).stage refl
    where
      go : (g : Stage) → (desk x).stage ≡ g → End x
      go Idle e = absurd (subst Busy e b)
      go Installing e = let y = after x Installing e tt in end_more x y.0 y.1 y.2.to (stamping y.0 y.2.stage)
      go Stamping e = stamping x e
      go (Flushing r) e = let y = after x (Flushing r) e tt in end_more x y.0 y.1 y.2.to (rounds h y.0 r y.2.stage (omega arith))
      go Removing e = removing x e

pub alike_onwards : (h : ℕ) {s t : State} → Stay s t → Alike (onwards h t.desk) (onwards h s.desk)
alike_onwards h {s} {t} y = subst (λ (g : Stage). Alike (on_from h t.desk g) (onwards h s.desk)) y.stage (go s.desk.stage)
  where
    go : (g : Stage) → Alike (on_from h t.desk g) (on_from h s.desk g)
    go Idle = record { from = sym y.from; to = sym y.to; stage = sym y.stage }
    go Installing = record { from = sym y.from; to = sym y.to; stage = refl }
    go Stamping = record { from = sym y.from; to = sym y.to; stage = refl }
    go (Flushing r) = record { from = sym y.from; to = sym y.to; stage = refl }
    go Removing = record { from = sym y.to; to = sym y.to; stage = refl }
