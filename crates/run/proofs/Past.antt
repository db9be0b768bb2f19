-- What has been ordered and answered is told by the desk, and a switch has a place for every table that it is to take in.
use Rattle.std.proofs.Common.{◌≡◌, ℕ, ◌+◌, ◌<◌, eqb, ◌⊎◌, List, [], ◌++◌, sym, refl, ap, ◌∙◌, subst, inl, inr, ⊎_elim, arith, eqb→eq}
use mathlib.Core.List.Memᴰ
use mathlib.Core.List.{Memᴰ}
use Rattle.run.specs.At.{at}
use Rattle.run.specs.Net.{Net, Plan, GoodNet}
use Rattle.run.specs.Order.{Order, Install, Answer, Installed, Stamped, Reached, Removed, answer_to}
use Rattle.run.specs.Desk.{Stage, Idle, Desk, Busy, orders_in, onwards, changed}
use Rattle.run.specs.Run.{State, stay, more, Reach}
use Rattle.run.specs.Past.{WasAsked, AskedAt, awaited, awaited_in, order_for, PastIsTold}
use Rattle.run.proofs.Inv.{InvAt}
use Rattle.run.proofs.Lists.{by_test}
use Rattle.run.proofs.Room.{place}
use Rattle.run.proofs.Steps.{Desks, quiet, hears, goes, begins, desks}
use Rattle.run.proofs.Whole.{now}
use Rattle.run.proofs.Asked.{Turns, goes_on, wanted_is, is_wanted, answer_for}
use Rattle.run.proofs.Asked as asked
use Rattle.run.proofs.Answered.{Answers, answers}

-- the orders that were given are those that the desk tells
abbrev Given : ℕ → Desk → (ℕ → Plan) → (ℕ → List Order) → Type 0
Given h d plans given = ((i : ℕ) (o : Order) → Memᴰ o (given i) → WasAsked h d (answer_to o) × (o ≡ order_for plans i (answer_to o))) × ((i : ℕ) (a : Answer) → WasAsked h d a → Memᴰ (order_for plans i a) (given i))

-- the desk goes on from d to e, with the orders of its new stage
further : (h : ℕ) (d e : Desk) (plans : ℕ → Plan) (given : ℕ → List Order) → asked.Goes h d d.stage e e.stage →
    Given h d plans given → Given h e plans (λ i. given i ++ orders_in e.from e.to ((plans e.to).table i) e.stage)
further h d e plans given t g = (
  λ i o m. ⊎_elim (λ y. let z = g.0 i o y in (t.old (answer_to o) z.0, z.1))
      (λ y. let z = wanted_is plans i e.from e.to e.stage o y in (t.new (answer_to o) z.0, z.1)) (Memᴰ.append_cases (given i) m),
  λ i a y. ⊎_elim (λ z. Memᴰ.append_left (orders_in e.from e.to ((plans e.to).table i) e.stage) (g.1 i a z)) (λ z. Memᴰ.append_right (given i) (is_wanted plans i e.from e.to e.stage a z)) (t.only a y),
)

-- a plan that was not asked about yet makes no difference to an order
order_same : (h : ℕ) (d : Desk) (b : Plan) (plans : ℕ → Plan) (i : ℕ) (a : Answer) → WasAsked h d a → order_for plans i a ≡ order_for (at (d.to + 1) b plans) i a
order_same h d b plans i (Installed v) y = ap (λ (p : Plan). order_for (λ _. p) i (Installed v)) (by_test (λ (p : Plan). plans v ≡ p) (eqb v (d.to + 1)) (λ t. let e = eqb→eq v (d.to + 1) t in let l = y.1 in absurd (omega arith)) (λ _. refl))
order_same h d b plans i (Stamped v) y = refl
order_same h d b plans i (Reached v r) y = refl
order_same h d b plans i (Removed v) y = refl

bring : (h : ℕ) (d : Desk) (b : Plan) (plans : ℕ → Plan) (given : ℕ → List Order) → Given h d plans given → Given h d (at (d.to + 1) b plans) given
bring h d b plans given g = (
  λ i o m. let z = g.0 i o m in (z.0, z.1 ∙ order_same h d b plans i (answer_to o) z.0),
  λ i a y. subst (λ (o : Order). Memᴰ o (given i)) (order_same h d b plans i a y) (g.1 i a y),
)

module _ (w : Net) (good : GoodNet w) where
  -- what the desk's going on adds
  on : {s : State} → Reach w s → Busy s.desk.stage → asked.Goes w.hops s.desk s.desk.stage (onwards w.hops s.desk) (onwards w.hops s.desk).stage
  on {s} r b = goes_on w.hops s.desk s.desk.stage (now w good r).0.stage b

  -- and a change's beginning
  start_on : {s : State} → Reach w s → s.desk.stage ≡ Idle → asked.Goes w.hops s.desk s.desk.stage (changed (s.desk.to + 1) s.desk) (changed (s.desk.to + 1) s.desk).stage
  start_on {s} r idle = subst (λ (g : Stage). asked.Goes w.hops s.desk g (changed (s.desk.to + 1) s.desk) (changed (s.desk.to + 1) s.desk).stage) (sym idle)
      (asked.begins w.hops s.desk (subst (InvAt w s.plans s) idle (now w good r).0).stage)

  given_of : (s t : State) → Reach w s → Desks w s t → Given w.hops s.desk s.plans s.given → Given w.hops t.desk t.plans t.given
  given_of s t r (quiet q) g = subst (λ (d : Desk). Given w.hops d t.plans t.given) (sym q.desk) (subst (λ (p : ℕ → Plan). Given w.hops s.desk p t.given) (sym q.plans) (subst (Given w.hops s.desk s.plans) (sym q.given) g))
  given_of s t r (hears i d p e) g = subst (λ (d : Desk). Given w.hops d t.plans t.given) (sym d) (subst (λ (p : ℕ → Plan). Given w.hops s.desk p t.given) (sym p) (subst (Given w.hops s.desk s.plans) (sym e) g))
  given_of s t r (goes b all e) g = subst (λ (t : State). Given w.hops t.desk t.plans t.given) (sym e) (further w.hops s.desk (onwards w.hops s.desk) s.plans s.given (on r b) g)
  given_of s t r (begins a y idle e) g = subst (λ (t : State). Given w.hops t.desk t.plans t.given) (sym e)
      (further w.hops s.desk (changed (s.desk.to + 1) s.desk) (at (s.desk.to + 1) a s.plans) s.given (start_on r idle) (bring w.hops s.desk a s.plans s.given g))

  pub given : {s : State} → Reach w s → Given w.hops s.desk s.plans s.given
  given stay = (λ i o m. elim m [ ], none)
    where
      none : (i : ℕ) (a : Answer) → AskedAt w.hops 0 0 0 a → Memᴰ (order_for (λ v. w.first) i a) []
      none i (Installed v) y = absurd (omega arith)
      none i (Stamped v) y = absurd (omega arith)
      none i (Reached v r) y = absurd (omega arith)
      none i (Removed v) y = absurd (omega arith)
  given (more {t = s} {u = t} r y) = given_of s t r (desks w y) (given r)

  -- what was asked stays asked
  stays_asked : (s t : State) → Reach w s → Desks w s t → (a : Answer) → WasAsked w.hops s.desk a → WasAsked w.hops t.desk a
  stays_asked s t r (quiet q) a y = subst (λ (d : Desk). WasAsked w.hops d a) (sym q.desk) y
  stays_asked s t r (hears i d p e) a y = subst (λ (d : Desk). WasAsked w.hops d a) (sym d) y
  stays_asked s t r (goes b all e) a y = subst (λ (t : State). WasAsked w.hops t.desk a) (sym e) ((on r b).old a y)
  stays_asked s t r (begins b g idle e) a y = subst (λ (t : State). WasAsked w.hops t.desk a) (sym e) ((start_on r idle).old a y)

  pub answered : {s : State} → Reach w s → (i : ℕ) (a : Answer) → Memᴰ a (s.answered i) → WasAsked w.hops s.desk a
  answered stay i a m = elim m [ ]
  answered (more {t = s} {u = t} r y) i a m = stays_asked s t r (desks w y) a
      (⊎_elim (answered r i a) (λ z. subst (WasAsked w.hops s.desk) (sym z.2) ((given r).0 i z.0 z.1).0) ((answers w y).only i a m))

  -- what was asked is awaited or was answered
  abbrev Sent : Desk → List Answer → Type 0
  Sent d said = (a : Answer) → WasAsked w.hops d a → Memᴰ a (awaited d) ⊎ Memᴰ a said

  sent_of : (s t : State) → Reach w s → Desks w s t → (i : ℕ) → i < w.switches → Sent s.desk (s.answered i) → Answers s t → Sent t.desk (t.answered i)
  sent_of s t r (quiet q) i l f y = subst (λ (d : Desk). Sent d (t.answered i)) (sym q.desk) (λ a z. ⊎_elim inl (λ m. inr (y.old i a m)) (f a z))
  sent_of s t r (hears j d p e) i l f y = subst (λ (d : Desk). Sent d (t.answered i)) (sym d) (λ a z. ⊎_elim inl (λ m. inr (y.old i a m)) (f a z))
  sent_of s t r (goes b all e) i l f y = subst (λ (t : State). Sent t.desk (t.answered i)) (sym e) (λ a z. ⊎_elim (λ m. inr (⊎_elim (was a) (λ n. n) (f a m))) inl ((on r b).only a z))
    where
      -- the one that was awaited was sent too, since all have answered
      was : (a : Answer) → Memᴰ a (awaited s.desk) → Memᴰ a (s.answered i)
      was a m = subst (λ (b : Answer). Memᴰ b (s.answered i)) (answer_for s.plans i a)
          ((now w good r).0.seen i (all i l) (order_for s.plans i a) (is_wanted s.plans i s.desk.from s.desk.to s.desk.stage a m))
  sent_of s t r (begins b g idle e) i l f y = subst (λ (t : State). Sent t.desk (t.answered i)) (sym e) (λ a z. ⊎_elim (λ m. inr (⊎_elim (none a) (λ n. n) (f a m))) inl ((start_on r idle).only a z))
    where
      none : (a : Answer) → Memᴰ a (awaited s.desk) → Memᴰ a (s.answered i)
      none a m = elim (subst (λ (g : Stage). Memᴰ a (awaited_in s.desk.from s.desk.to g)) idle m) [ ]

  all_answered : {s : State} → Reach w s → (i : ℕ) → i < w.switches → Sent s.desk (s.answered i)
  all_answered stay i l = nothing
    where
      nothing : (a : Answer) → AskedAt w.hops 0 0 0 a → Memᴰ a [] ⊎ Memᴰ a []
      nothing (Installed v) y = absurd (omega arith)
      nothing (Stamped v) y = absurd (omega arith)
      nothing (Reached v r) y = absurd (omega arith)
      nothing (Removed v) y = absurd (omega arith)
  all_answered (more {t = s} {u = t} r y) i l = sent_of s t r (desks w y) i l (all_answered r i l) (answers w y)

pub told : PastIsTold
told w good s r = record {
  given = (given w good r).0;
  all_given = (given w good r).1;
  answered = answered w good r;
  all_answered = all_answered w good r;
  room = λ i l v t m b. place w good r i l v ((given w good r).0 i (Install v t) m).0.1 b;
}
