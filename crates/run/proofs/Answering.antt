-- What an order brings when it comes: a round its marks, and an order of the stage its answer once it is done.
use Rattle.std.proofs.Common.{◌≡◌, ℕ, zero, suc, ◌<◌, ◌≤◌, cond, not, ◌&&◌, T, eqb, ltb, leb, List, [], ◌∷◌, ◌++◌, None, sym, refl, ap, ◌∙◌, subst, inl, inr, ⊎_elim, le_refl, arith, eqb→eq, nltb→le, T_not}
use mathlib.Core.List.Memᴰ
use mathlib.Core.List.{Memᴰ}
use lib.Dec.{eqb_refl, nleb→lt}
use Rattle.std.proofs.lemmas.Bool.Decides.{nat_tests}
use Rattle.packet.specs.Table.{Table}
use Rattle.run.specs.Net.{Net, Plan, GoodNet, Cable, Wire, To}
use Rattle.run.specs.Order.{Order, Install, Stamp, Round, Remove, Answer, answer_to}
use Rattle.run.specs.Switch.{Mark, mark_of, later, Switch, Message, Reply, MarkOn, knows, install, keep_mark, obey, is_cable, marks_on, marks_for, reaches, done}
use Rattle.run.specs.Desk.{Stage, Idle, Installing, Stamping, Flushing, Removing, orders_in}
use Rattle.run.specs.Run.{Item, mark, State, with_switch, wanted, ordered, arrived}
use Rattle.run.proofs.Inv.{time_at, time_of, Has, old, both, new, Fit, Ripe, Kept, Since, Did, InvAt, Inv}
use Rattle.run.proofs.Lists.{by_test, at_self, either, not_both, below_split, neqb}
use Rattle.run.proofs.Held.{knows_new}
use Rattle.run.proofs.Switches.{obey_latest, obey_fit, reach_all, floor_up}
use Rattle.run.proofs.Keeps.{spans}
use Rattle.run.proofs.Moves.{items, items_append, replies, replies_append, moves_add}

-- the mark that a port n gets, seen at port q
abbrev mark_at : ℕ → (ℕ → Wire) → Mark → List Message
mark_at n wire k = cond (is_cable (wire n)) (MarkOn n k ∷ []) []

mark_other : (n : ℕ) (wire : ℕ → Wire) (k : Mark) (q : ℕ) → (q ≡ n → ⊥) → items None q (mark_at n wire k) ≡ []
unfolding items
mark_other n wire k q d = by_test (λ (ms : List Message). items None q ms ≡ []) (is_cable (wire n))
    (λ _. by_test (λ (xs : List Item). xs ++ [] ≡ []) (eqb q n) (λ t. absurd (d (eqb→eq q n t))) (λ _. refl)) (λ _. refl)

mark_own : (n : ℕ) (wire : ℕ → Wire) (k : Mark) (q j p : ℕ) → q ≡ n → wire q ≡ To j p → items None q (mark_at n wire k) ≡ mark k ∷ []
unfolding items
mark_own n wire k q j p d e = subst (λ (x : Wire). items None q (cond (is_cable x) (MarkOn n k ∷ []) []) ≡ mark k ∷ []) (sym (ap wire (sym d) ∙ e))
    (by_test (λ (xs : List Item). xs ++ [] ≡ mark k ∷ []) (eqb q n) (λ _. refl) (λ t. absurd (neqb q n t d)))

-- what the marks of a round put on a port with a cable, and what they reply
marks_above : (n : ℕ) (wire : ℕ → Wire) (k : Mark) (q : ℕ) → n ≤ q → items None q (marks_on n wire k) ≡ []
unfolding items marks_on
marks_above zero wire k q l = refl
marks_above (suc n) wire k q l = items_append None q (marks_on n wire k) (mark_at n wire k) ∙ ap (λ (xs : List Item). xs ++ items None q (mark_at n wire k)) (marks_above n wire k q (omega arith)) ∙ mark_other n wire k q (λ e. omega arith)

marks_at : (n : ℕ) (wire : ℕ → Wire) (k : Mark) (q j p : ℕ) → q < n → wire q ≡ To j p → items None q (marks_on n wire k) ≡ mark k ∷ []
unfolding marks_on
marks_at zero wire k q j p l e = absurd (omega arith)
marks_at (suc n) wire k q j p l e = items_append None q (marks_on n wire k) (mark_at n wire k) ∙ ⊎_elim
    (λ m. ap (λ (xs : List Item). xs ++ items None q (mark_at n wire k)) (marks_at n wire k q j p m e) ∙ ap (λ (xs : List Item). mark k ∷ xs) (mark_other n wire k q (λ d. omega arith)))
    (λ m. ap (λ (xs : List Item). xs ++ items None q (mark_at n wire k)) (marks_above n wire k q (omega arith)) ∙ mark_own n wire k q j p m e)
    (below_split q n l)

marks_reply : (n : ℕ) (wire : ℕ → Wire) (k : Mark) → replies (marks_on n wire k) ≡ []
unfolding replies marks_on
marks_reply zero wire k = refl
marks_reply (suc n) wire k = replies_append (marks_on n wire k) (cond (is_cable (wire n)) (MarkOn n k ∷ []) []) ∙ ap (λ (xs : List Answer). xs ++ replies (cond (is_cable (wire n)) (MarkOn n k ∷ []) [])) (marks_reply n wire k) ∙
    by_test (λ (ms : List Message). replies ms ≡ []) (is_cable (wire n)) (λ _. refl) (λ _. refl)

-- a round puts its mark on each cable, and nothing else
pub round_puts : (w : Net) → GoodNet w → (s : State) (j q i p v r : ℕ) → Cable w j q i p → (ordered w j (Round v r) s).queue j q ≡ s.queue j q ++ (mark (mark_of v r) ∷ [])
unfolding items
round_puts w good s j q i p v r c = (moves_add j None sends (with_switch j (s.switch j) s)).queue j q ∙ ap (λ (xs : List Item). s.queue j q ++ xs) (at_self (λ (xs : List Item). xs ≡ mark (mark_of v r) ∷ []) j (items None q sends) [] puts)
  where
    replied : List Message
    replied = cond (done w.ports (w.wire j) (Round v r) (s.switch j)) (Reply (answer_to (Round v r)) ∷ []) []

    sends : List Message
    sends = marks_on w.ports (w.wire j) (mark_of v r) ++ replied

    puts : items None q sends ≡ mark (mark_of v r) ∷ []
    puts = items_append None q (marks_on w.ports (w.wire j) (mark_of v r)) replied ∙
        ap (λ (xs : List Item). xs ++ items None q replied) (marks_at w.ports (w.wire j) (mark_of v r) q i p (good.ends i p j q (good.both j q i p c)).1 c) ∙
        ap (λ (xs : List Item). mark (mark_of v r) ∷ xs) (by_test (λ (ms : List Message). items None q ms ≡ []) (done w.ports (w.wire j) (Round v r) (s.switch j)) (λ _. refl) (λ _. refl))

-- an order that is then done is answered, once
pub order_replies : (w : Net) (s : State) (i : ℕ) (o : Order) → T (done w.ports (w.wire i) o (obey o (s.switch i))) → (ordered w i o s).answered i ≡ s.answered i ++ (answer_to o ∷ [])
unfolding replies
order_replies w s i o d = (moves_add i None sends (with_switch i (obey o (s.switch i)) s)).answered i ∙ ap (λ (xs : List Answer). s.answered i ++ xs) (at_self (λ (xs : List Answer). xs ≡ answer_to o ∷ []) i (replies sends) [] says)
  where
    replied : List Message
    replied = cond (done w.ports (w.wire i) o (obey o (s.switch i))) (Reply (answer_to o) ∷ []) []

    sends : List Message
    sends = marks_for w.ports (w.wire i) o ++ replied

    none : (o : Order) → replies (marks_for w.ports (w.wire i) o) ≡ []
    none (Install v t) = refl
    none (Stamp v) = refl
    none (Round v r) = marks_reply w.ports (w.wire i) (mark_of v r)
    none (Remove v) = refl

    says : replies sends ≡ answer_to o ∷ []
    says = replies_append (marks_for w.ports (w.wire i) o) replied ∙ ap (λ (xs : List Answer). xs ++ replies replied) (none o) ∙
        by_test (λ (ms : List Message). replies ms ≡ answer_to o ∷ []) (done w.ports (w.wire i) o (obey o (s.switch i))) (λ _. refl) (λ t. absurd (T_not (done w.ports (w.wire i) o (obey o (s.switch i))) t d))

kept_installed : (v : ℕ) (t : Table) (x : Switch) → Kept v (install v t x)
kept_installed v t x = by_test (Kept v) (leb x.floor v && not (knows v x.held)) (λ _. inl (knows_new v t x.held))
    (λ n. ⊎_elim inl (λ y. inr (nleb→lt x.floor v (not_both (leb x.floor v) (not (knows v x.held)) n y))) (either (knows v x.held)))

-- the stages that go by marks
abbrev pub Rounds : Stage → Type 0
Rounds Idle = ⊥
Rounds Installing = ⊥
Rounds Stamping = ⊥
Rounds (Flushing r) = Unit {0}
Rounds Removing = ⊥

module _ (w : Net) (good : GoodNet w) (a : ℕ → Plan) (s : State) where
  -- an order of the stage that has come is done for good, but for rounds
  pub order_does : (g : Stage) → InvAt w a s g → (Rounds g → ⊥) → (i : ℕ) → i < w.switches → (o : Order) → Memᴰ o (orders_in s.desk.from s.desk.to ((s.plans s.desk.to).table i) g) → Did w i (obey o (s.switch i)) (answer_to o)
  order_does Idle v n i l o m = elim m [ ]
  order_does Installing v n i l o m = subst (λ (o : Order). Did w i (obey o (s.switch i)) (answer_to o)) (sym (Memᴰ.eq_of_singleton m)) (kept_installed s.desk.to ((s.plans s.desk.to).table i) (s.switch i))
  order_does Stamping v n i l o m = subst (λ (o : Order). Did w i (obey o (s.switch i)) (answer_to o)) (sym (Memᴰ.eq_of_singleton m))
      (by_test (λ (x : Switch). s.desk.to ≤ x.stamp) (ltb (s.switch i).stamp s.desk.to && knows s.desk.to (s.switch i).held) (λ _. le_refl s.desk.to)
      (λ t. nltb→le (s.switch i).stamp s.desk.to (not_both (ltb (s.switch i).stamp s.desk.to) (knows s.desk.to (s.switch i).held) t (there (v.switches i l).has))))
    where
      there : Has w.hops (time_at w s.desk Stamping) a i (s.switch i).held (s.switch i).floor → T (knows s.desk.to (s.switch i).held)
      there (old z f b) = absurd (omega arith)
      there (both z f b) = z.all s.desk.to (inr refl)
      there (new z f b) = z.all s.desk.to refl
  order_does (Flushing r) v n i l o m = absurd (n tt)
  order_does Removing v n i l o m = subst (λ (o : Order). Did w i (obey o (s.switch i)) (answer_to o)) (sym (Memᴰ.eq_of_singleton m))
      (by_test (λ (x : Switch). s.desk.from < x.floor) (ltb s.desk.from (s.switch i).stamp) (λ _. (floor_up (s.switch i).floor s.desk.from).1)
      (λ t. let b = nltb→le s.desk.from (s.switch i).stamp t in let z = (v.switches i l).stamps in let e = v.stage in absurd (omega arith)))

  -- what is done for good shows when the order of the stage comes
  shows : (g : Stage) → InvAt w a s g → (i : ℕ) (x : Switch) → Fit w.hops (time_at w s.desk g) a i x → (s.switch i).latest ≡ x.latest →
      (o : Order) → Memᴰ o (orders_in s.desk.from s.desk.to ((s.plans s.desk.to).table i) g) → Did w i x (answer_to o) → T (done w.ports (w.wire i) o x)
  shows Idle v i x f k o m d = elim m [ ]
  shows Installing v i x f k o m d = subst (λ (o : Order). Did w i x (answer_to o) → T (done w.ports (w.wire i) o x)) (sym (Memᴰ.eq_of_singleton m)) (⊎_elim (λ y. y) (λ y. absurd (low y f.has))) d
    where
      low : s.desk.to < x.floor → Has w.hops (time_at w s.desk Installing) a i x.held x.floor → ⊥
      low y (old z e b) = let c = v.stage in omega arith
      low y (both z e b) = let c = v.stage in omega arith
      low y (new z e b) = omega arith
  shows Stamping v i x f k o m d = subst (λ (o : Order). Did w i x (answer_to o) → T (done w.ports (w.wire i) o x)) (sym (Memᴰ.eq_of_singleton m))
      (λ y. let z = f.stamps in let c = v.stage in let e : x.stamp ≡ s.desk.to = omega arith in subst (λ (n : ℕ). T (eqb x.stamp n)) e (eqb_refl x.stamp)) d
  shows (Flushing r) v i x f k o m d = subst (λ (o : Order). Did w i x (answer_to o) → T (done w.ports (w.wire i) o x)) (sym (Memᴰ.eq_of_singleton m))
      (λ y. reach_all w.ports (w.wire i) (mark_of s.desk.to r) x.latest (λ p j q l e. let c = good.both i p j q e in
      go (x.latest p) (y j q p c) (subst (λ (f : ℕ → Mark). Ripe (time_at w s.desk (Flushing r)) (f p)) k (v.cables i j q p c).0))) d
    where
      go : (n : Mark) → Since (mark_of s.desk.to r) n → Ripe (time_at w s.desk (Flushing r)) n → T (reaches (mark_of s.desk.to r) n)
      go n y z = let c = v.stage.0 in let e : n.version ≡ s.desk.to = omega arith in let b : r ≤ n.round = omega arith in grind (arith, nat_tests)
  shows Removing v i x f k o m d = subst (λ (o : Order). Did w i x (answer_to o) → T (done w.ports (w.wire i) o x)) (sym (Memᴰ.eq_of_singleton m)) (gone f.has) d
    where
      gone : Has w.hops (time_at w s.desk Removing) a i x.held x.floor → s.desk.from < x.floor → T (not (knows s.desk.from x.held))
      gone (old z e b) y = absurd (omega arith)
      gone (both z e b) y = absurd (omega arith)
      gone (new z e b) y = ⊎_elim (λ t. let n = z.only s.desk.from t in let c = v.stage in absurd (omega arith)) (λ t. t) (either (knows s.desk.from x.held))

  -- so an order of the stage that is done for good is answered when it comes
  pub answered_then : Inv w a s → (i : ℕ) → i < w.switches → (o : Order) → Memᴰ o (wanted s s.desk i) → Memᴰ o (s.given i) → Did w i (obey o (s.switch i)) (answer_to o) →
      (ordered w i o s).answered i ≡ s.answered i ++ (answer_to o ∷ [])
  answered_then v i l o m g d = order_replies w s i o (shows s.desk.stage v i (obey o (s.switch i))
      (obey_fit w.hops (time_of w s) a i o (s.switch i) (spans w s.desk s.desk.stage v.stage) (v.given i o g) (v.switches i l)) (obey_latest o (s.switch i)) o m d)

-- a mark that has come in
mark_in : (p : ℕ) (k : Mark) (x : Switch) → Since k ((keep_mark p k x).latest p)
mark_in p k x = by_test (λ (y : Switch). Since k (y.latest p)) (later k (x.latest p))
    (λ _. at_self (Since k) p k (x.latest p) (inr (refl, le_refl k.round))) (λ t. not_later (x.latest p) t)
  where
    not_later : (l : Mark) → T (not (later k l)) → Since k l
    not_later l t = grind (arith, nat_tests)

pub arrived_mark : (w : Net) (i p : ℕ) (k : Mark) (s : State) → Since k (((arrived w i p (mark k) s).switch i).latest p)
arrived_mark w i p k s = subst (λ (f : ℕ → Switch). Since k ((f i).latest p)) (sym (moves_add i None [] (with_switch i (keep_mark p k (s.switch i)) s)).switch)
    (at_self (λ (x : Switch). Since k (x.latest p)) i (keep_mark p k (s.switch i)) (s.switch i) (mark_in p k (s.switch i)))
