-- A change that is under way can be ended, with nothing lost.
use Rattle.std.proofs.Common.{◌≡◌, ℕ, ◌<◌, true, T, List, [], ◌∷◌, ◌++◌, Some, None, sym, refl, ap, ◌∙◌, subst, append_assoc}
use mathlib.Core.List.{Memᴰ}
use Rattle.run.specs.Net.{Net, GoodNet, Cable}
use Rattle.run.specs.Order.{Order, Round, answer_to}
use Rattle.run.specs.Switch.{Mark, mark_of, obey, take_frame, take_mark, take_order}
use Rattle.run.specs.Desk.{Busy, onwards}
use Rattle.run.specs.Run.{Item, frame, mark, State, Step, arrive, order, hear, next, Steps, stay, more, Reach, with_queue, with_switch, wanted, ordered, arrived}
use Rattle.run.specs.Live.{Keeping, NoLoss, CanEnd}
use Rattle.run.proofs.Inv.{Since, Did}
use Rattle.run.proofs.Lists.{at_self, at2_self, snoc_last, mem_split}
use Rattle.run.proofs.Moves.{moves_add}
use Rattle.run.proofs.Steps.{turned_quiet, arrived_quiet, grown}
use Rattle.run.proofs.Whole.{now}
use Rattle.run.proofs.Stages.{Stay, stay_refl, stay_trans, stay_quiet, stay_heard, given_all, Alike, to_the_end, alike_onwards}
use Rattle.run.proofs.Answering.{round_puts, answered_then, arrived_mark}
use Rattle.run.proofs.OneStage.{all_heard}

steps_then : {w : Net} {r s t : State} → Steps w r s → Steps w s t → Steps w r t
steps_then a stay = a
steps_then a (more b y) = more (steps_then a b) y

no_loss_then : {w : Net} {r s t : State} (a : Steps w r s) (b : Steps w s t) → NoLoss a → NoLoss b → NoLoss (steps_then a b)
unfolding steps_then
no_loss_then a stay m n = m
no_loss_then a (more b y) m n = (no_loss_then a b m n.0, n.1)

-- an item that comes in only adds behind what is on a cable
arrived_queue : (w : Net) (i p : ℕ) (x : Item) (s : State) (j q : ℕ) → (xs : List Item) × ((arrived w i p x s).queue j q ≡ s.queue j q ++ xs)
arrived_queue w i p (frame c) s j q = let t = take_frame (w.wire i) c.frame (s.switch i) in (_, (moves_add i (Some c.entry) t.sends (with_switch i t.after s)).queue j q)
arrived_queue w i p (mark k) s j q = (_, (moves_add i None [] (with_switch i (take_mark p k (s.switch i)).after s)).queue j q)

-- a state that is reached
record Place (w : Net) : Type 0 where
  state : State
  reached : Reach w state

module _ (w : Net) (good : GoodNet w) where
  -- y is behind x, with the desk in its stage
  record After (x y : Place w) : Type 0 where
    steps : Steps w x.state y.state
    stays : Stay x.state y.state

  -- from x, with the desk in its stage and nothing lost, Q can be reached
  record Can (x : Place w) (Q : Place w → Type 0) : Type 0 where
    y : Place w
    after : After x y
    none : NoLoss after.steps
    so : Q y

  after_trans : (x y z : Place w) → After x y → After y z → After x z
  after_trans x y z a b = record { steps = steps_then a.steps b.steps; stays = stay_trans a.stays b.stays }

  pure : (Q : Place w → Type 0) (x : Place w) → Q x → Can x Q
  pure Q x q = record { y = x; after = record { steps = stay; stays = stay_refl x.state }; none = tt; so = q }

  bind : (Q S : Place w → Type 0) (x : Place w) → Can x Q → ((y : Place w) → After x y → Q y → Can y S) → Can x S
  bind Q S x a f = let b = f a.y a.after a.so in
      record { y = b.y; after = record { steps = steps_then a.after.steps b.after.steps; stays = stay_trans a.after.stays b.after.stays }; none = no_loss_then a.after.steps b.after.steps a.none b.none; so = b.so }

  one_step : (Q : State → Type 0) (x : Place w) {t : State} (y : Step w x.state t) → Keeping y → Stay x.state t → Q t → Can x (λ y. Q y.state)
  one_step Q x {t} y k a q = record { y = record { state = t; reached = more x.reached y }; after = record { steps = more stay y; stays = a }; none = (tt, k); so = q }

  -- an order of the stage comes
  give : (Q : State → Type 0) (x : Place w) → Busy x.state.desk.stage → (i : ℕ) → i < w.switches → (o : Order) → Memᴰ o (wanted x.state x.state.desk i) → Q (ordered w i o x.state) → Can x (λ y. Q y.state)
  give Q x b i l o m q = one_step Q x (order x.state i l o (given_all w x.reached b i o m)) tt (stay_quiet (turned_quiet i None (take_order w.ports (w.wire i) o (x.state.switch i)) x.state)) q

  -- it is answered if it is then done for good, and the answer is heard
  hears : (x : Place w) → Busy x.state.desk.stage → (i : ℕ) → i < w.switches → (o : Order) → Memᴰ o (wanted x.state x.state.desk i) →
      ((y : Place w) → After x y → Did w i (obey o (y.state.switch i)) (answer_to o)) → Can x (λ y. T (y.state.desk.seen i))
  hears x b i l o m d = let s = x.state in bind (λ y. Memᴰ (answer_to o) (y.state.answered i)) (λ y. T (y.state.desk.seen i)) x
      (give (λ t. Memᴰ (answer_to o) (t.answered i)) x b i l o m
      (subst (Memᴰ (answer_to o)) (sym (answered_then w good s.plans s (now w good x.reached).0 i l o m (given_all w x.reached b i o m) (d x (record { steps = stay; stays = stay_refl s })))) (snoc_last (s.answered i) (answer_to o))))
      (λ y r a. let t = y.state in one_step (λ t. T (t.desk.seen i)) y (hear t i l o (subst (Memᴰ o) (r.stays.wants i) m) a) tt (stay_heard t i) (at_self T i true (t.desk.seen i) tt))

  -- a mark that is on a cable can be brought in
  come_in : (j q i p : ℕ) → Cable w j q i p → (k : Mark) (front rest : List Item) (x : Place w) → x.state.queue j q ≡ front ++ (mark k ∷ rest) → Can x (λ y. Since k ((y.state.switch i).latest p))
  come_in j q i p c k [] rest x e = let s = x.state in one_step (λ t. Since k ((t.switch i).latest p)) x (arrive s j q i p c (mark k) rest e) tt (stay_quiet (arrived_quiet w j q i p (mark k) rest s)) (arrived_mark w i p k (with_queue j q rest s))
  come_in j q i p c k (u ∷ front) rest x e = let s = x.state in let a = arrived_queue w i p u (with_queue j q (front ++ (mark k ∷ rest)) s) j q in
      bind (λ y. y.state.queue j q ≡ front ++ (mark k ∷ (rest ++ a.0))) (λ y. Since k ((y.state.switch i).latest p)) x
      (one_step (λ t. t.queue j q ≡ front ++ (mark k ∷ (rest ++ a.0))) x (arrive s j q i p c u (front ++ (mark k ∷ rest)) e) tt (stay_quiet (arrived_quiet w j q i p u (front ++ (mark k ∷ rest)) s))
      (a.1 ∙ ap (λ (ys : List Item). ys ++ a.0) (at2_self (λ (ys : List Item). ys ≡ front ++ (mark k ∷ rest)) j q (front ++ (mark k ∷ rest)) (s.queue j q) refl) ∙ append_assoc front (mark k ∷ rest) a.0))
      (λ y _ f. come_in j q i p c k front (rest ++ a.0) y f)

  -- so the mark of a round can be
  brings : (x : Place w) → Busy x.state.desk.stage → (j q i p v r : ℕ) → j < w.switches → Cable w j q i p → Memᴰ (Round v r) (wanted x.state x.state.desk j) → Can x (λ y. Since (mark_of v r) ((y.state.switch i).latest p))
  brings x b j q i p v r l e m = bind (λ y. Memᴰ (mark (mark_of v r)) (y.state.queue j q)) (λ y. Since (mark_of v r) ((y.state.switch i).latest p)) x
      (give (λ t. Memᴰ (mark (mark_of v r)) (t.queue j q)) x b j l (Round v r) m (subst (Memᴰ (mark (mark_of v r))) (sym (round_puts w good x.state j q i p v r e)) (snoc_last (x.state.queue j q) (mark (mark_of v r)))))
      (λ y _ f. let c = mem_split (mark (mark_of v r)) (y.state.queue j q) f in come_in j q i p e (mark_of v r) c.0 c.1 y c.2)

  -- and all can be heard, and the desk goes on
  can_next : (x : Place w) → Busy x.state.desk.stage → (y : Place w) × ((r : Steps w x.state y.state) × NoLoss r) × Alike y.state.desk (onwards w.hops x.state.desk)
  can_next x b = let c = all_heard (Place w) After Can pure bind w good (λ y. y.state) (λ y. y.reached) (λ y z r. r.stays) after_trans (λ y z r. grown w r.steps) hears brings x b in
      let s = c.y.state in let y = next s (subst Busy c.after.stays.stage b) c.so in
      (record { state = _; reached = more c.y.reached y }, (more c.after.steps y, (c.none, tt)), alike_onwards w.hops c.after.stays)

pub can_end : CanEnd
can_end w good s r b = let y = to_the_end w.hops (Place w) (λ x. x.state.desk) (λ x y. (r : Steps w x.state y.state) × NoLoss r)
    (λ x y z a b. (steps_then a.0 b.0, no_loss_then a.0 b.0 a.1 b.1)) (can_next w good) (record { state = s; reached = r }) b in
    (y.0.state, y.1.0, y.1.1, y.2, y.3)
