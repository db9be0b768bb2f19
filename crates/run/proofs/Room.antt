-- A switch that is to take in a table holds one at most, so two places always suffice.
use Rattle.std.proofs.Common.{◌≡◌, ℕ, ◌+◌, ◌<◌, ◌≤◌, not, ◌&&◌, ◌||◌, T, eqb, ltb, leb, ◌⊎◌, List, [], ◌∷◌, ◌++◌, length, Some, None, Option, sym, ◌∙◌, subst, inl, inr, ⊎_elim, arith, leb→le, T_not}
use lib.Dec.{eqb_refl}
use Rattle.run.specs.Net.{Net, GoodNet}
use Rattle.run.specs.Order.{Order, Install, Stamp, Round, Remove}
use Rattle.run.specs.Switch.{Held, Switch, Turn, knows, gone, without, later, obey, take_frame, take_packet, take_mark, take_order}
use Rattle.run.specs.Run.{Entry, frame, mark, State, Step, enter, arrive, lose, order, hear, next, change, stay, more, Reach, with_switch, with_queue, with_entry, turned, entry}
use Rattle.run.proofs.Inv.{time_of, Spans, Has, old, both, new, Inv}
use Rattle.run.proofs.Lists.{by_test, at_case, or_l, or_r, and_l, and_r, not_so}
use Rattle.run.proofs.Held.{held, knows_snoc, knows_without}
use Rattle.run.proofs.Keeps.{spans}
use Rattle.run.proofs.Moves.{moves_add}
use Rattle.run.proofs.Whole.{now}

-- no version is held twice
abbrev Distinct : List Held → Type 0
Distinct [] = Unit {0}
Distinct (x ∷ xs) = T (not (knows x.version xs)) × Distinct xs

distinct_snoc : (xs : List Held) (x : Held) → Distinct xs → T (not (knows x.version xs)) → Distinct (xs ++ (x ∷ []))
unfolding knows
distinct_snoc [] x d n = (tt, tt)
distinct_snoc (y ∷ ys) x d n = (
  not_so (knows y.version (ys ++ (x ∷ []))) (λ t. ⊎_elim (λ z. T_not (knows y.version ys) d.0 z)
      (λ z. T_not (eqb x.version y.version || knows x.version ys) n (or_l (eqb x.version y.version) (knows x.version ys) (subst (λ (v : ℕ). T (eqb x.version v)) (sym z) (eqb_refl x.version)))) (knows_snoc y.version x ys t)),
  distinct_snoc ys x d.1 (not_so (knows x.version ys) (λ t. T_not (eqb x.version y.version || knows x.version ys) n (or_r (eqb x.version y.version) (knows x.version ys) t))),
)

distinct_without : (v : ℕ) (xs : List Held) → Distinct xs → Distinct (without v xs)
distinct_without v [] d = tt
distinct_without v (x ∷ xs) d = by_test Distinct (not (gone v x.version))
    (λ _. (not_so (knows x.version (without v xs)) (λ t. T_not (knows x.version xs) d.0 (knows_without v x.version xs t).0), distinct_without v xs d.1)) (λ _. distinct_without v xs d.1)

distinct_obey : (o : Order) (x : Switch) → Distinct x.held → Distinct (obey o x).held
distinct_obey (Install v t) x d = by_test (λ (y : Switch). Distinct y.held) (leb x.floor v && not (knows v x.held))
    (λ b. distinct_snoc x.held (held v t) d (and_r (leb x.floor v) (not (knows v x.held)) b)) (λ _. d)
distinct_obey (Stamp v) x d = by_test (λ (y : Switch). Distinct y.held) (ltb x.stamp v && knows v x.held) (λ _. d) (λ _. d)
distinct_obey (Round v r) x d = d
distinct_obey (Remove v) x d = by_test (λ (y : Switch). Distinct y.held) (ltb v x.stamp) (λ _. distinct_without v x.held d) (λ _. d)

turned_distinct : (i : ℕ) (of : Option Entry) (t : Turn) (s : State) → Distinct t.after.held → ((n : ℕ) → Distinct (s.switch n).held) → (n : ℕ) → Distinct ((turned i of t s).switch n).held
turned_distinct i of t s d e n = subst (λ (f : ℕ → Switch). Distinct (f n).held) (sym (moves_add i of t.sends (with_switch i t.after s)).switch) (at_case (λ _ (y : Switch). Distinct y.held) i {f = s.switch} d e n)

step_distinct : (w : Net) {s t : State} → Step w s t → ((n : ℕ) → Distinct (s.switch n).held) → (n : ℕ) → Distinct (t.switch n).held
step_distinct w (enter s i l p n e) d = turned_distinct i (Some (entry s i p)) (take_packet w.hops (w.wire i) p (s.switch i)) (with_entry (entry s i p) s) (d i) d
step_distinct w (arrive s j q i p e (frame c) rest m) d = turned_distinct i (Some c.entry) (take_frame (w.wire i) c.frame (s.switch i)) (with_queue j q rest s) (d i) d
step_distinct w (arrive s j q i p e (mark k) rest m) d = turned_distinct i None (take_mark p k (s.switch i)) (with_queue j q rest s) (by_test (λ (y : Switch). Distinct y.held) (later k ((s.switch i).latest p)) (λ _. d i) (λ _. d i)) d
step_distinct w (lose s j q i p e (frame c) front rest m) d = d
step_distinct w (lose s j q i p e (mark k) front rest m) d = d
step_distinct w (order s i l o m) d = turned_distinct i None (take_order w.ports (w.wire i) o (s.switch i)) s (distinct_obey o (s.switch i) (d i)) d
step_distinct w (hear s i l o m n) d = d
step_distinct w (next s b all) d = d
step_distinct w (change s v a g idle room) d = d

distinct : (w : Net) {s : State} → Reach w s → (n : ℕ) → Distinct (s.switch n).held
unfolding knows
distinct w stay n = (tt, tt)
distinct w (more r y) n = step_distinct w y (distinct w r) n

-- so where all are of one version there is at most one
at_most_one : (xs : List Held) (v : ℕ) → Distinct xs → ((u : ℕ) → T (knows u xs) → u ≡ v) → length xs ≤ 1
unfolding knows
at_most_one [] v d f = omega arith
at_most_one (x ∷ []) v d f = omega arith
at_most_one (x ∷ (y ∷ ys)) v d f = absurd (T_not (eqb x.version y.version || knows x.version ys) d.0
    (or_l (eqb x.version y.version) (knows x.version ys) (subst (λ (n : ℕ). T (eqb x.version n)) same (eqb_refl x.version))))
  where
    same : x.version ≡ y.version
    same = f x.version (or_l (eqb x.version x.version) (eqb x.version y.version || knows x.version ys) (eqb_refl x.version)) ∙
        sym (f y.version (or_r (eqb y.version x.version) (eqb y.version y.version || knows y.version ys) (or_l (eqb y.version y.version) (knows y.version ys) (eqb_refl y.version))))

pub place : (w : Net) → GoodNet w → {s : State} → Reach w s → (i : ℕ) → i < w.switches → (v : ℕ) → v ≤ s.desk.to → T (leb (s.switch i).floor v && not (knows v (s.switch i).held)) → length (s.switch i).held ≤ 1
place w good {s} r i l v k b = go (inv.switches i l).has
  where
    inv : Inv w s.plans s
    inv = (now w good r).0

    next : Spans (time_of w s) → (s.desk.to ≡ s.desk.from) ⊎ (s.desk.to ≡ s.desk.from + 1)
    next p = ⊎_elim (λ x. inl x.1) (λ x. inr x.1) p

    below : (s.switch i).floor ≤ v
    below = leb→le (s.switch i).floor v (and_l (leb (s.switch i).floor v) (not (knows v (s.switch i).held)) b)

    go : Has w.hops (time_of w s) s.plans i (s.switch i).held (s.switch i).floor → length (s.switch i).held ≤ 1
    go (old z f n) = at_most_one (s.switch i).held s.desk.from (distinct w r i) z.only
    go (both z f n) = absurd (T_not (knows v (s.switch i).held) (and_r (leb (s.switch i).floor v) (not (knows v (s.switch i).held)) b) (z.all v (which v (let q = below in omega arith) k (next (spans w s.desk s.desk.stage inv.stage)))))
      where
        which : (v : ℕ) → s.desk.from ≤ v → v ≤ s.desk.to → (s.desk.to ≡ s.desk.from) ⊎ (s.desk.to ≡ s.desk.from + 1) → (v ≡ s.desk.from) ⊎ (v ≡ s.desk.to)
        which v a b c = grind arith
    go (new z f n) = at_most_one (s.switch i).held s.desk.to (distinct w r i) z.only
