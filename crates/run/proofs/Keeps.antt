-- Each change of one part of the state keeps the invariant, under what that part must meet.
use Rattle.std.proofs.Common.{◌≡◌, ℕ, ◌<◌, T, List, [], ◌∷◌, ◌++◌, sym, refl, ◌∙◌, subst, inl, inr, ⊎_elim, arith}
use mathlib.Core.List.Memᴰ
use mathlib.Core.List.{Memᴰ}
use Rattle.packet.specs.Table.{Table}
use Rattle.run.specs.Net.{Net, Plan, Cable}
use Rattle.run.specs.Order.{Order, Answer, answer_to}
use Rattle.run.specs.Switch.{Switch}
use Rattle.run.specs.Desk.{Stage, Idle, Installing, Stamping, Flushing, Removing, Desk, orders_in, heard}
use Rattle.run.specs.Run.{Entry, Item, frame, mark, Exit, State, with_switch, with_queue, with_answer, with_desk, with_entry, with_exit, put_on, fall, wanted}
use Rattle.run.specs.Past.{rank}
use Rattle.run.proofs.Inv.{time_of, Spans, Fit, Fine, Line, Lines, Did, Grows, Logged, Wired, Sound, StageOk, Inv}
use Rattle.run.proofs.Lists.{at_case, at2_case, snoc_cases, snoc_old, mem_more}
use Rattle.run.proofs.Cables.{Last, line_snoc, line_drop}
use Rattle.run.proofs.Switches.{grows_refl, did_grows}

-- the two versions of a stage
pub spans : (w : Net) (d : Desk) (g : Stage) → StageOk w.hops d.from d.to g → Spans (record { from = d.from; to = d.to; rank = rank w.hops g })
spans w d Idle e = inl (refl, e)
spans w d Installing e = inr (omega arith, e)
spans w d Stamping e = inr (omega arith, e)
spans w d (Flushing r) e = inr (omega arith, e.0)
spans w d Removing e = inr (omega arith, e)

-- a stage has at most one order
pub one_order : (from to : ℕ) (t : Table) (g : Stage) (o u : Order) → Memᴰ o (orders_in from to t g) → Memᴰ u (orders_in from to t g) → o ≡ u
one_order from to t Idle o u m n = elim m [ ]
one_order from to t Installing o u m n = Memᴰ.eq_of_singleton m ∙ sym (Memᴰ.eq_of_singleton n)
one_order from to t Stamping o u m n = Memᴰ.eq_of_singleton m ∙ sym (Memᴰ.eq_of_singleton n)
one_order from to t (Flushing r) o u m n = Memᴰ.eq_of_singleton m ∙ sym (Memᴰ.eq_of_singleton n)
one_order from to t Removing o u m n = Memᴰ.eq_of_singleton m ∙ sym (Memᴰ.eq_of_singleton n)

module _ (w : Net) (a : ℕ → Plan) where
  -- a switch becomes one that is at least as far
  pub keeps_switch : (s : State) → Inv w a s → (i : ℕ) (x : Switch) → (i < w.switches → Fit w.hops (time_of w s) a i x) → Grows (s.switch i) x → Lines w a (time_of w s) i x.latest s.queue → Inv w a (with_switch i x s)
  keeps_switch s v i x f g c = record {
    stage = v.stage;
    good = v.good;
    given = v.given;
    seen = v.seen;
    wired = v.wired;
    exits = v.exits;
    switches = at_case (λ n y. n < w.switches → Fit w.hops (time_of w s) a n y) i f v.switches;
    answered = λ n o m. did_grows w n (at_case (λ n y. Grows (s.switch n) y) i g (λ n. grows_refl (s.switch n)) n) o (v.answered n o m);
    cables = at_case (λ n (y : Switch). Lines w a (time_of w s) n y.latest s.queue) i c v.cables;
  }

  -- one item of a cable goes
  pub keeps_drop : (s : State) → Inv w a s → (j q : ℕ) (x : Item) (front rest : List Item) → s.queue j q ≡ front ++ (x ∷ rest) → Inv w a (with_queue j q (front ++ rest) s)
  keeps_drop s v j q x front rest e = record {
    stage = v.stage;
    good = v.good;
    switches = v.switches;
    given = v.given;
    answered = v.answered;
    seen = v.seen;
    exits = v.exits;
    cables = λ i. at2_case (λ j q xs. (p : ℕ) → Cable w j q i p → Line w a (time_of w s) i (mark ((s.switch i).latest p) ∷ xs)) j q
        (λ p c. line_drop w a (time_of w s) i x (mark ((s.switch i).latest p) ∷ front) rest (subst (λ (ys : List Item). Line w a (time_of w s) i (mark ((s.switch i).latest p) ∷ ys)) e (v.cables i j q p c)))
        (v.cables i);
    wired = at2_case (Wired w s.entries) j q (λ y m. v.wired j q y (subst (Memᴰ y) (sym e) (mem_more x y front rest m))) v.wired;
  }

  -- an item is put on a cable
  pub keeps_put : (s : State) → Inv w a s → (j q i p : ℕ) → Cable w j q i p → (x : Item) → Fine w a (time_of w s) i x → Last w (time_of w s) x → Logged s.entries x → Inv w a (put_on j q x s)
  keeps_put s v j q i p c x f l g = record {
    stage = v.stage;
    good = v.good;
    switches = v.switches;
    given = v.given;
    answered = v.answered;
    seen = v.seen;
    exits = v.exits;
    cables = λ n. at2_case (λ j q xs. (p : ℕ) → Cable w j q n p → Line w a (time_of w s) n (mark ((s.switch n).latest p) ∷ xs)) j q
        (λ p' c'. line_snoc w a (time_of w s) n (mark ((s.switch n).latest p') ∷ s.queue j q) x (v.cables n j q p' c') (let e : n ≡ i = cc in subst (λ (k : ℕ). Fine w a (time_of w s) k x) (sym e) f) l)
        (v.cables n);
    wired = at2_case (Wired w s.entries) j q (λ y m. ⊎_elim (v.wired j q y) (λ e. (i, p, c, subst (Logged s.entries) (sym e) g)) (snoc_cases (s.queue j q) m)) v.wired;
  }

  pub keeps_fall : (s : State) → Inv w a s → (i : ℕ) (x : Item) → Inv w a (fall i x s)
  keeps_fall s v i (frame c) = record { stage = v.stage; good = v.good; switches = v.switches; given = v.given; answered = v.answered; seen = v.seen; exits = v.exits; cables = v.cables; wired = v.wired }
  keeps_fall s v i (mark k) = v

  -- a true answer is sent
  pub keeps_answer : (s : State) → Inv w a s → (i : ℕ) (o : Answer) → Did w i (s.switch i) o → Inv w a (with_answer i o s)
  keeps_answer s v i o d = record {
    stage = v.stage;
    good = v.good;
    switches = v.switches;
    given = v.given;
    exits = v.exits;
    cables = v.cables;
    wired = v.wired;
    answered = at_case (λ n os. (u : Answer) → Memᴰ u os → Did w n (s.switch n) u) i (λ u m. ⊎_elim (v.answered i u) (λ e. subst (Did w i (s.switch i)) (sym e) d) (snoc_cases (s.answered i) m)) v.answered;
    seen = λ n t u m. at_case (λ n os. Memᴰ (answer_to u) (s.answered n) → Memᴰ (answer_to u) os) i (snoc_old (s.answered i) o) (λ n z. z) n (v.seen n t u m);
  }

  pub keeps_entry : (s : State) → Inv w a s → (e : Entry) → Inv w a (with_entry e s)
  keeps_entry s v e = record {
    stage = v.stage;
    good = v.good;
    switches = v.switches;
    given = v.given;
    answered = v.answered;
    seen = v.seen;
    cables = v.cables;
    exits = λ x m. let z = v.exits x m in record { logged = snoc_old s.entries e z.logged; leaves = z.leaves };
    wired = λ j q x m. let z = v.wired j q x m in (z.0, z.1, z.2, more x z.3);
  }
    where
      more : (x : Item) → Logged s.entries x → Logged (s.entries ++ (e ∷ [])) x
      more (frame c) l = snoc_old s.entries e l
      more (mark k) l = tt

  pub keeps_exit : (s : State) → Inv w a s → (x : Exit) → Sound w a s.entries x → Inv w a (with_exit x s)
  keeps_exit s v x z = record {
    stage = v.stage;
    good = v.good;
    switches = v.switches;
    given = v.given;
    answered = v.answered;
    seen = v.seen;
    cables = v.cables;
    wired = v.wired;
    exits = λ y m. ⊎_elim (v.exits y) (λ e. subst (Sound w a s.entries) (sym e) z) (snoc_cases s.exits m);
  }

  -- an answer to the order of the stage is heard
  pub keeps_heard : (s : State) → Inv w a s → (i : ℕ) (o : Order) → Memᴰ o (wanted s s.desk i) → Memᴰ (answer_to o) (s.answered i) → Inv w a (with_desk (heard i s.desk) s)
  keeps_heard s v i o y z = record {
    stage = v.stage;
    good = v.good;
    switches = v.switches;
    given = v.given;
    answered = v.answered;
    exits = v.exits;
    cables = v.cables;
    wired = v.wired;
    seen = λ n t u m. at_case (λ n b. T b → Memᴰ u (wanted s s.desk n) → Memᴰ (answer_to u) (s.answered n)) i
        (λ _ k. subst (λ (x : Order). Memᴰ (answer_to x) (s.answered i)) (one_order s.desk.from s.desk.to ((s.plans s.desk.to).table i) s.desk.stage o u y k) z) (λ n t. v.seen n t u) n t m;
  }
