-- In a fair run a change ends.
use Rattle.std.proofs.Common.{◌≡◌, ℕ, zero, suc, ◌+◌, ◌<◌, ◌≤◌, true, T, ◌⊎◌, [], ◌∷◌, ◌++◌, sym, ap, ◌∙◌, subst, inl, inr, ⊎_elim, le_trans, le_refl, arith}
use mathlib.Core.List.{Memᴰ}
use Rattle.run.specs.Net.{Net, GoodNet, Cable}
use Rattle.run.specs.Order.{Order, Round, answer_to}
use Rattle.run.specs.Switch.{mark_of, obey}
use Rattle.run.specs.Desk.{Desk, Busy, onwards}
use Rattle.run.specs.Run.{mark, State, Steps, stay, more, Reach, with_queue, wanted, ordered}
use Rattle.run.specs.Live.{Endless, Sometime, Again, Gone, Fair, Ends}
use Rattle.run.proofs.Inv.{Since, Did}
use Rattle.run.proofs.Lists.{le_split, at_self}
use Rattle.run.proofs.Steps.{grown}
use Rattle.run.proofs.Whole.{now}
use Rattle.run.proofs.Stages.{Stay, stay_refl, stay_trans, desk_step, next_stage, given_all, Alike, to_the_end, alike_onwards}
use Rattle.run.proofs.Answering.{round_puts, answered_then, arrived_mark}
use Rattle.run.proofs.OneStage.{all_heard}

-- the states of a run are reached, and the later ones from the earlier ones
pub reach : (w : Net) (run : ℕ → State) → Endless w run → (n : ℕ) → Reach w (run n)
reach w run e zero = e.begins
reach w run e (suc n) = more (reach w run e n) (e.steps n)

pub between : (w : Net) (run : ℕ → State) → Endless w run → (n m : ℕ) → n ≤ m → Steps w (run n) (run m)
between w run e n zero l = subst (λ (k : ℕ). Steps w (run n) (run k)) (let z : n ≡ 0 = omega arith in z) stay
between w run e n (suc m) l = ⊎_elim (λ y. more (between w run e n m y) (e.steps m)) (λ z. subst (λ (k : ℕ). Steps w (run n) (run k)) z stay) (le_split n m l)

module _ (w : Net) (good : GoodNet w) (run : ℕ → State) (fair : Fair w run) where
  -- from n to m the desk stays
  record Stays (n m : ℕ) : Type 0 where
    le : n ≤ m
    is : Stay (run n) (run m)

  -- the desk stays from n to p and then goes on
  record Cross (n : ℕ) : Type 0 where
    p : ℕ
    stays : Stays n p
    goes : (run (suc p)).desk ≡ onwards w.hops (run p).desk

  abbrev BusyAt : ℕ → Type 0
  BusyAt n = Busy (run n).desk.stage

  busy : (n m : ℕ) → Stays n m → BusyAt n → BusyAt m
  busy n m y b = subst Busy y.is.stage b

  stays_refl : (n : ℕ) → Stays n n
  stays_refl n = record { le = le_refl n; is = stay_refl (run n) }

  stays_more : (n m k : ℕ) → Stays n m → Stays m k → Stays n k
  stays_more n m k a b = record { le = le_trans a.le b.le; is = stay_trans a.is b.is }

  cross_more : (n m : ℕ) → Stays n m → Cross m → Cross n
  cross_more n m a c = record { p = c.p; stays = stays_more n m c.p a c.stays; goes = c.goes }

  until : (n m : ℕ) → n ≤ m → BusyAt n → Cross n ⊎ Stays n m
  until n zero l b = inr (subst (Stays n) (let e : n ≡ 0 = omega arith in e) (stays_refl n))
  until n (suc m) l b = ⊎_elim (λ y. ⊎_elim inl on (until n m y b)) (λ e. inr (subst (Stays n) e (stays_refl n))) (le_split n m l)
    where
      on : Stays n m → Cross n ⊎ Stays n (suc m)
      on y = ⊎_elim (λ z. inr (record { le = le_trans y.le (omega arith); is = stay_trans y.is z })) (λ z. inl (record { p = m; stays = y; goes = z })) (desk_step w (fair.runs.steps m) (busy n m y b))

  -- to be gone is to have gone on
  gone_cross : (n m : ℕ) → BusyAt n → Gone run n m → Cross n
  gone_cross n m b g = ⊎_elim (λ c. c) (λ y. absurd (g.3 y.is.from y.is.to y.is.stage)) (until n g.0 g.1 b)

  cross_gone : (n : ℕ) → BusyAt n → Cross n → (k : ℕ) → Sometime k (Gone run n)
  cross_gone n b c k = let l = c.stays.le in (
    k + suc c.p,
    omega arith,
    (
      suc c.p,
      omega arith,
      omega arith,
      λ _ _ e. next_stage w.hops (run c.p).desk (run c.p).desk.stage (busy n c.p c.stays b) (sym c.stays.is.stage ∙ e ∙ ap (λ (d : Desk). d.stage) c.goes),
    ),
  )

  -- the desk goes on, or while it stays Q comes to hold
  abbrev Ev : ℕ → (ℕ → Type 0) → Type 0
  Ev n Q = Cross n ⊎ ((m : ℕ) × Stays n m × Q m)

  pure : (Q : ℕ → Type 0) (n : ℕ) → Q n → Ev n Q
  pure Q n q = inr (n, stays_refl n, q)

  bind : (Q S : ℕ → Type 0) (n : ℕ) → Ev n Q → ((m : ℕ) → Stays n m → Q m → Ev m S) → Ev n S
  bind Q S n (inl c) f = inl c
  bind Q S n (inr y) f = ⊎_elim (λ c. inl (cross_more n y.0 y.1 c)) (λ z. inr (z.0, stays_more n y.0 z.0 y.1 z.1, z.2)) (f y.0 y.1 y.2)

  -- a step m that brings Q, or after which the desk has gone on
  then_at : (n m : ℕ) → BusyAt n → n ≤ m → (Q : ℕ → Type 0) → Q (suc m) → Ev n Q
  then_at n m b l Q q = ⊎_elim inl (λ y. inr (suc m, y, q)) (until n (suc m) (le_trans l (omega arith)) b)

  -- from k on the order of the stage at n comes at some time
  comes : (n i : ℕ) → BusyAt n → i < w.switches → (o : Order) → Memᴰ o (wanted (run n) (run n).desk i) → (k : ℕ) → n ≤ k →
      Cross n ⊎ ((m : ℕ) × (k ≤ m) × Stays n m × (run (suc m) ≡ ordered w i o (run m)))
  comes n i b l o u k lk = ⊎_elim inl at_k (until n k lk b)
    where
      at_k : Stays n k → Cross n ⊎ ((m : ℕ) × (k ≤ m) × Stays n m × (run (suc m) ≡ ordered w i o (run m)))
      at_k y = let c = fair.comes k i l o (subst (Memᴰ o) (y.is.wants i) u) in
          ⊎_elim (λ g. inl (cross_more n k y (gone_cross k c.0 (busy n k y b) g)))
          (λ e. ⊎_elim (λ x. inl (cross_more n k y x)) (λ z. inr (c.0, c.1, stays_more n k c.0 y z, e)) (until k c.0 c.1 (busy n k y b)))
          c.2

  -- so what each coming of the order brings is brought again and again
  again : (n i : ℕ) → BusyAt n → i < w.switches → (o : Order) → Memᴰ o (wanted (run n) (run n).desk i) → (Q : ℕ → Type 0) →
      ((m : ℕ) → Stays n m → run (suc m) ≡ ordered w i o (run m) → Q m) → Again n (λ m. Gone run n m ⊎ Q m)
  again n i b l o u Q f k lk = ⊎_elim (λ c. let g = cross_gone n b c k in (g.0, g.1, inl g.2)) (λ y. (y.0, y.1, inr (f y.0 y.2 y.3))) (comes n i b l o u k lk)

  -- a switch whose order is done for good whenever it comes is heard
  hears : (n : ℕ) → BusyAt n → (i : ℕ) → i < w.switches → (o : Order) → Memᴰ o (wanted (run n) (run n).desk i) → ((m : ℕ) → Stays n m → Did w i (obey o ((run m).switch i)) (answer_to o)) → Ev n (λ m. T ((run m).desk.seen i))
  hears n b i l o u d = let c = fair.answers n i l o u (again n i b l o u (λ m. (run (suc m)).answered i ≡ (run m).answered i ++ (answer_to o ∷ []))
      (λ m y e. ap (λ (s : State). s.answered i) e ∙ answered_then w good (run m).plans (run m) (now w good (reach w run fair.runs m)).0 i l o (u_at m y) (given_all w (reach w run fair.runs m) (busy n m y b) i o (u_at m y)) (d m y))) in
      ⊎_elim (λ g. inl (gone_cross n c.0 b g)) (λ e. then_at n c.0 b c.1 (λ m. T ((run m).desk.seen i)) (subst (λ (s : State). T (s.desk.seen i)) (sym e) (at_self T i true ((run c.0).desk.seen i) tt))) c.2
    where
      u_at : (m : ℕ) → Stays n m → Memᴰ o (wanted (run m) (run m).desk i)
      u_at m y = subst (Memᴰ o) (y.is.wants i) u

  -- the mark of a round comes in over each cable
  brings : (n : ℕ) → BusyAt n → (j q i p v r : ℕ) → j < w.switches → Cable w j q i p → Memᴰ (Round v r) (wanted (run n) (run n).desk j) → Ev n (λ m. Since (mark_of v r) (((run m).switch i).latest p))
  brings n b j q i p v r l e u = let c = fair.marks n j q i p e (mark_of v r) (again n j b l (Round v r) u (λ m. (run (suc m)).queue j q ≡ (run m).queue j q ++ (mark (mark_of v r) ∷ []))
      (λ m y f. ap (λ (s : State). s.queue j q) f ∙ round_puts w good (run m) j q i p v r e)) in
      ⊎_elim (λ g. inl (gone_cross n c.0 b g))
      (λ f. then_at n c.0 b c.1 (λ m. Since (mark_of v r) (((run m).switch i).latest p)) (subst (λ (s : State). Since (mark_of v r) ((s.switch i).latest p)) (sym f.2) (arrived_mark w i p (mark_of v r) (with_queue j q f.0 (run c.0))))) c.2

  -- so all are heard, and the desk goes on
  goes_on : (n : ℕ) → BusyAt n → Cross n
  goes_on n b = ⊎_elim (λ c. c) (λ y. let g = fair.goes y.0 (busy n y.0 y.1 b) y.2 in cross_more n y.0 y.1 (gone_cross y.0 g.0 (busy n y.0 y.1 b) g.2))
      (all_heard ℕ Stays Ev pure bind w good run (reach w run fair.runs) (λ n m y. y.is) stays_more (λ n m y. grown w (between w run fair.runs n m y.le)) hears brings n b)

pub ends : Ends
ends w good run fair n b = let y = to_the_end w.hops ℕ (λ m. (run m).desk) (λ n m. n ≤ m) (λ x y z l m. le_trans l m) step n b in (y.0, y.1, (y.2, y.3))
  where
    step : (n : ℕ) → Busy (run n).desk.stage → (m : ℕ) × (n ≤ m) × Alike (run m).desk (onwards w.hops (run n).desk)
    step n b = let c = goes_on w good run fair n b in let l = c.stays.le in (suc c.p, le_trans l (omega arith), subst (λ (d : Desk). Alike d (onwards w.hops (run n).desk)) (sym c.goes) (alike_onwards w.hops c.stays.is))
