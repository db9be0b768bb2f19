-- A view follows the steps: what it has to become so that it shows the state behind a step.
use Rattle.std.proofs.Common.{◌≡◌, ℕ, ◌+◌, ◌<◌, ◌≤◌, Bool, true, false, cond, ◌&&◌, T, eqb, ltb, ◌⊎◌, List, [], ◌∷◌, ◌++◌, map, Option, sym, refl, ap, ◌∙◌, subst, inl, inr, ⊎_elim, arith, eqb→eq}
use mathlib.Core.List.Memᴰ
use mathlib.Core.List.{Memᴰ}
use Rattle.run.specs.At.{at, at2}
use Rattle.run.specs.Net.{Plan, Net, GoodNet}
use Rattle.run.specs.Order.{Answer, Installed, Stamped, Reached, Removed}
use Rattle.run.specs.Switch.{Switch, Turn}
use Rattle.run.specs.Desk.{Stage, Idle, Installing, Stamping, Flushing, Removing, Desk, Busy, heard, after_round, on_from, onwards, changed}
use Rattle.run.specs.Run.{Entry, Item, frame, mark, State, Reach, fall, with_switch, with_queue, with_desk, with_plan, turned, commanded}
use Rattle.run.specs.Past.{rank, AskedAt, WasAsked, awaited_in, awaited}
use Rattle.run.specs.View.{View, Shows, olden}
use Rattle.run.proofs.Lists.{by_test, at_self}
use Rattle.run.proofs.Inv.{StageOk, InvAt}
use Rattle.run.proofs.Whole.{now}
use Rattle.run.proofs.Past.{answered}
use Rattle.run.proofs.Told.{to_same}
use Rattle.run.proofs.Moves.{Adds, items, replies, leaving, moves_add}

map_append : {A B : Type 0} (f : A → B) (xs ys : List A) → map f (xs ++ ys) ≡ map f xs ++ map f ys
map_append f [] ys = refl
map_append f (x ∷ xs) ys = ap (λ l. f x ∷ l) (map_append f xs ys)

map_cond : {A B : Type 0} (f : A → B) (b : Bool) (xs : List A) → map f (cond b xs []) ≡ cond b (map f xs) []
map_cond f true xs = refl
map_cond f false xs = refl

map_choice : {A B : Type 0} (f : A → B) (b : Bool) (xs : List A) (ys : List B) (zs : List A) → ys ≡ map f zs → cond b (map f xs) ys ≡ map f (cond b xs zs)
map_choice f true xs ys zs e = refl
map_choice f false xs ys zs e = e

-- the order of a new stage was not given before
fresh_round : (h from to r : ℕ) → to ≡ from + 1 → r ≤ h → (a : Answer) → Memᴰ a (awaited_in from to (after_round h r)) → AskedAt h from to (r + 2) a → ⊥
fresh_round h from to r e l a m = by_test (λ (g : Stage). Memᴰ a (awaited_in from to g) → AskedAt h from to (r + 2) a → ⊥) (ltb r h)
    (λ _ n y. no (subst (AskedAt h from to (r + 2)) (Memᴰ.eq_of_singleton n) y))
    (λ _ n y. gone (subst (AskedAt h from to (r + 2)) (Memᴰ.eq_of_singleton n) y)) m
  where
    no : AskedAt h from to (r + 2) (Reached to (r + 1)) → ⊥
    no y = omega arith

    gone : AskedAt h from to (r + 2) (Removed from) → ⊥
    gone y = omega arith

fresh_on : (h : ℕ) (d : Desk) (g : Stage) → StageOk h d.from d.to g → Busy g → (a : Answer) → Memᴰ a (awaited_in (on_from h d g).from (on_from h d g).to (on_from h d g).stage) → AskedAt h d.from d.to (rank h g) a → ⊥
fresh_on h d Idle ok b a m y = b
fresh_on h d Installing ok b a m y = no (subst (AskedAt h d.from d.to 1) (Memᴰ.eq_of_singleton m) y)
  where
    no : AskedAt h d.from d.to 1 (Stamped d.to) → ⊥
    no y = omega arith
fresh_on h d Stamping ok b a m y = fresh_round h d.from d.to 0 ok (omega arith) a m y
fresh_on h d (Flushing r) ok b a m y = fresh_round h d.from d.to r ok.0 ok.2 a m y
fresh_on h d Removing ok b a m y = elim m [ ]

module _ (w : Net) {I : Type 0} (stored : Item → I) where
  -- a switch has its turn
  pub turned_shows : (v v' : View I) (s : State) → Shows w stored v s → (i : ℕ) (of : Option Entry) (t : Turn) →
      ((n : ℕ) → n < w.switches → v'.switch n ≡ at i t.after v.switch n) →
      ((j q : ℕ) → v'.lines j q ≡ v.lines j q ++ cond (eqb j i) (map stored (items of q t.sends)) []) →
      v'.desk ≡ v.desk → v'.old ≡ v.old → v'.new ≡ v.new →
      ((n : ℕ) → n < w.switches → (a : Answer) → Memᴰ a (awaited v.desk) → (T (v'.said n) → T (v.said n) ⊎ Memᴰ a (cond (eqb n i) (replies t.sends) [])) × (T (v.said n) ⊎ Memᴰ a (cond (eqb n i) (replies t.sends) []) → T (v'.said n))) →
      Shows w stored v' (turned i of t s)
  turned_shows v v' s h i of t sw li de ol ne sa = record {
    switch = λ n l. sw n l ∙ ap (λ (x : Switch). cond (eqb n i) t.after x) (h.switch n l) ∙ ap (λ (f : ℕ → Switch). f n) (sym m.switch);
    lines = λ j q. li j q ∙ ap (λ (l : List I). l ++ cond (eqb j i) (map stored (items of q t.sends)) []) (h.lines j q) ∙ ap (λ (l : List I). map stored (s.queue j q) ++ l) (sym (map_cond stored (eqb j i) (items of q t.sends))) ∙
        sym (map_append stored (s.queue j q) (cond (eqb j i) (items of q t.sends) [])) ∙ ap (map stored) (sym (m.queue j q));
    desk = de ∙ h.desk ∙ sym m.desk;
    old = ol ∙ h.old ∙ plan (λ d. d.from);
    new = ne ∙ h.new ∙ plan (λ d. d.to);
    said = λ n l a y. said n l a (subst (λ (d : Desk). Memᴰ a (awaited d)) m.desk y);
  }
    where
      m : Adds i (λ q. items of q t.sends) (replies t.sends) (leaving i of t.sends) (with_switch i t.after s) (turned i of t s)
      m = moves_add i of t.sends (with_switch i t.after s)

      plan : (f : Desk → ℕ) → s.plans (f s.desk) ≡ (turned i of t s).plans (f (turned i of t s).desk)
      plan f = ap (λ (p : ℕ → Plan). p (f s.desk)) (sym m.plans) ∙ ap (λ (d : Desk). (turned i of t s).plans (f d)) (sym m.desk)

      said : (n : ℕ) → n < w.switches → (a : Answer) → Memᴰ a (awaited s.desk) → (T (v'.said n) → Memᴰ a ((turned i of t s).answered n)) × (Memᴰ a ((turned i of t s).answered n) → T (v'.said n))
      said n l a y = let z = sa n l a (subst (λ (d : Desk). Memᴰ a (awaited d)) (sym h.desk) y) in let x = h.said n l a y in (
        λ b. subst (Memᴰ a) (sym (m.answered n)) (⊎_elim (λ c. Memᴰ.append_left (cond (eqb n i) (replies t.sends) []) (x.0 c)) (Memᴰ.append_right (s.answered n)) (z.0 b)),
        λ b. z.1 (⊎_elim (λ c. inl (x.1 c)) inr (Memᴰ.append_cases (s.answered n) (subst (Memᴰ a) (m.answered n) b))),
      )

  -- the first item is taken off its cable
  pub taken_shows : (v v' : View I) (s : State) → Shows w stored v s → (j q : ℕ) (x : Item) (rest : List Item) → s.queue j q ≡ x ∷ rest →
      v'.switch ≡ v.switch → ((k r : ℕ) → v'.lines k r ≡ at2 j q (map stored rest) v.lines k r) → v'.desk ≡ v.desk → v'.old ≡ v.old → v'.new ≡ v.new → v'.said ≡ v.said →
      Shows w stored v' (with_queue j q rest s)
  taken_shows v v' s h j q x rest e sw li de ol ne sa = record {
    switch = λ i l. ap (λ (f : ℕ → Switch). f i) sw ∙ h.switch i l;
    lines = λ k r. li k r ∙ map_choice stored (eqb k j && eqb r q) rest (v.lines k r) (s.queue k r) (h.lines k r);
    desk = de ∙ h.desk;
    old = ol ∙ h.old;
    new = ne ∙ h.new;
    said = λ i l a y. subst (λ (f : ℕ → Bool). (T (f i) → Memᴰ a (s.answered i)) × (Memᴰ a (s.answered i) → T (f i))) (sym sa) (h.said i l a y);
  }

  -- what falls leaves the view as it is
  pub fallen_shows : (v : View I) (s : State) → Shows w stored v s → (i : ℕ) (x : Item) → Shows w stored v (fall i x s)
  fallen_shows v s h i (frame c) = record { switch = h.switch; lines = h.lines; desk = h.desk; old = h.old; new = h.new; said = h.said }
  fallen_shows v s h i (mark k) = h

  -- an answer is heard
  pub heard_shows : (v v' : View I) (s : State) → Shows w stored v s → (i : ℕ) →
      v'.switch ≡ v.switch → v'.lines ≡ v.lines → v'.desk ≡ heard i v.desk → v'.old ≡ v.old → v'.new ≡ v.new → v'.said ≡ v.said → Shows w stored v' (with_desk (heard i s.desk) s)
  heard_shows v v' s h i sw li de ol ne sa = record {
    switch = λ n l. ap (λ (f : ℕ → Switch). f n) sw ∙ h.switch n l;
    lines = λ j q. ap (λ (f : ℕ → ℕ → List I). f j q) li ∙ h.lines j q;
    desk = de ∙ ap (heard i) h.desk;
    old = ol ∙ h.old;
    new = ne ∙ h.new;
    said = λ n l a y. subst (λ (f : ℕ → Bool). (T (f n) → Memᴰ a (s.answered n)) × (Memᴰ a (s.answered n) → T (f n))) (sym sa) (h.said n l a y);
  }

  -- the desk goes on: the plan of its new version becomes that of its old one when the change is done
  pub next_shows : GoodNet w → (v v' : View I) (s : State) → Reach w s → Busy s.desk.stage → Shows w stored v s →
      v'.switch ≡ v.switch → v'.lines ≡ v.lines → v'.desk ≡ onwards w.hops v.desk → v'.old ≡ olden v.desk.stage v.old v.new → v'.new ≡ v.new → ((i : ℕ) → i < w.switches → T (v'.said i) → ⊥) →
      Shows w stored v' (commanded (onwards w.hops s.desk) s)
  next_shows good v v' s r b h sw li de ol ne sa = record {
    switch = λ n l. ap (λ (f : ℕ → Switch). f n) sw ∙ h.switch n l;
    lines = λ j q. ap (λ (f : ℕ → ℕ → List I). f j q) li ∙ h.lines j q;
    desk = de ∙ ap (onwards w.hops) h.desk;
    old = ol ∙ ap (λ (d : Desk). olden d.stage v.old v.new) h.desk ∙ plan s.desk.stage;
    new = ne ∙ h.new ∙ ap s.plans (sym (to_same w.hops s.desk s.desk.stage));
    said = λ i l a y. (λ t. absurd (sa i l t), λ m. absurd (fresh_on w.hops s.desk s.desk.stage (now w good r).0.stage b a y (answered w good r i a m)));
  }
    where
      plan : (g : Stage) → olden g v.old v.new ≡ s.plans (on_from w.hops s.desk g).from
      plan Idle = h.old
      plan Installing = h.old
      plan Stamping = h.old
      plan (Flushing r) = h.old
      plan Removing = h.new

  -- a change begins
  pub changed_shows : GoodNet w → (v v' : View I) (s : State) → Reach w s → s.desk.stage ≡ Idle → Shows w stored v s → (n : ℕ) → n ≡ s.desk.to + 1 → (a : Plan) →
      v'.switch ≡ v.switch → v'.lines ≡ v.lines → v'.desk ≡ changed n v.desk → v'.old ≡ v.old → v'.new ≡ a → ((i : ℕ) → i < w.switches → T (v'.said i) → ⊥) →
      Shows w stored v' (commanded (changed n s.desk) (with_plan n a s))
  changed_shows good v v' s r idle h n e a sw li de ol ne sa = record {
    switch = λ i l. ap (λ (f : ℕ → Switch). f i) sw ∙ h.switch i l;
    lines = λ j q. ap (λ (f : ℕ → ℕ → List I). f j q) li ∙ h.lines j q;
    desk = de ∙ ap (changed n) h.desk;
    old = ol ∙ h.old ∙ by_test (λ (p : Plan). s.plans s.desk.from ≡ p) (eqb s.desk.from n) (λ t. let z = eqb→eq s.desk.from n t in let o = ok in absurd (omega arith)) (λ _. refl);
    new = ne ∙ at_self (λ (p : Plan). a ≡ p) n a (s.plans n) refl;
    said = λ i l x y. (λ t. absurd (sa i l t), λ m. absurd (no (subst (WasAsked w.hops s.desk) (Memᴰ.eq_of_singleton y) (answered w good r i x m))));
  }
    where
      ok : s.desk.to ≡ s.desk.from
      ok = (subst (InvAt w s.plans s) idle (now w good r).0).stage

      no : WasAsked w.hops s.desk (Installed n) → ⊥
      no y = omega arith
