-- What orders and marks do to a switch.
use Rattle.std.proofs.Common.{◌≡◌, ℕ, zero, suc, ◌+◌, ◌<◌, ◌≤◌, Bool, true, false, cond, not, ◌&&◌, ◌||◌, T, eqb, ltb, leb, ◌⊎◌, List, [], ◌∷◌, ◌++◌, sym, refl, ap, ◌∙◌, subst, inl, inr, ⊎_elim, le_trans, le_refl, arith, eqb→eq, ltb→lt, leb→le, T_not}
use Rattle.std.proofs.lemmas.Bool.Decides.{nat_tests}
use Rattle.packet.specs.Table.{Table}
use Rattle.run.specs.Net.{Plan, Net, GoodNet, Wire, Outside, To, Nothing}
use Rattle.run.specs.Order.{Order, Install, Stamp, Round, Remove, Answer, Installed, Stamped, Reached, Removed, answer_to}
use Rattle.run.specs.Switch.{Mark, mark_of, later, Held, Switch, knows, table_of, without, install, stamp_with, remove, keep_mark, obey, is_cable, reaches, all_reach, done}
use Rattle.run.proofs.Lists.{by_test, and_l, and_r, and_both, below_split}
use Rattle.run.proofs.Inv.{Time, Spans, Has, old, both, new, Fit, Asked, Since, Did, Grows}
use Rattle.run.proofs.Held.{held, holds_as, holds_more, holds_less, knows_old, knows_less}

pub grows_refl : (x : Switch) → Grows x x
grows_refl x = record { floor = le_refl x.floor; stamp = le_refl x.stamp; kept = λ v k. k; latest = λ p k g. g }

pub grows_trans : {x y z : Switch} → Grows x y → Grows y z → Grows x z
grows_trans a b = record { floor = le_trans a.floor b.floor; stamp = le_trans a.stamp b.stamp; kept = λ v k. b.kept v (a.kept v k); latest = λ p k g. b.latest p k (a.latest p k g) }

-- what an answer says stays true
pub did_grows : (w : Net) (i : ℕ) {x y : Switch} → Grows x y → (o : Answer) → Did w i x o → Did w i y o
did_grows w i g (Installed v) d = g.kept v d
did_grows w i g (Stamped v) d = le_trans d g.stamp
did_grows w i g (Reached v r) d = λ j q p e. g.latest p (mark_of v r) (d j q p e)
did_grows w i g (Removed v) d = le_trans d g.floor

install_grows : (v : ℕ) (t : Table) (x : Switch) → Grows x (install v t x)
install_grows v t x = by_test (Grows x) (leb x.floor v && not (knows v x.held))
    (λ _. record { floor = le_refl x.floor; stamp = le_refl x.stamp; kept = λ u. ⊎_elim (λ y. inl (knows_old u (held v t) x.held y)) inr; latest = λ p k g. g })
    (λ _. grows_refl x)

stamp_grows : (v : ℕ) (x : Switch) → Grows x (stamp_with v x)
stamp_grows v x = by_test (Grows x) (ltb x.stamp v && knows v x.held)
    (λ y. let m : x.stamp < v = ltb→lt x.stamp v (and_l (ltb x.stamp v) (knows v x.held) y) in record { floor = le_refl x.floor; stamp = omega arith; kept = λ u k. k; latest = λ p k g. g })
    (λ _. grows_refl x)

pub floor_up : (f v : ℕ) → (f ≤ cond (leb f v) (v + 1) f) × (v < cond (leb f v) (v + 1) f)
floor_up f v = (grind (arith, nat_tests), grind (arith, nat_tests))

remove_grows : (v : ℕ) (x : Switch) → Grows x (remove v x)
remove_grows v x = by_test (Grows x) (ltb v x.stamp)
    (λ _. record {
      floor = up.0;
      stamp = le_refl x.stamp;
      latest = λ p k g. g;
      kept = λ u. ⊎_elim (λ y. ⊎_elim inl (λ z. inr (subst (λ (n : ℕ). n < cond (leb x.floor v) (v + 1) x.floor) (sym z) up.1)) (knows_less v u x.held y)) (λ y. inr (le_trans y up.0));
    })
    (λ _. grows_refl x)
  where
    up : (x.floor ≤ cond (leb x.floor v) (v + 1) x.floor) × (v < cond (leb x.floor v) (v + 1) x.floor)
    up = floor_up x.floor v

pub obey_grows : (o : Order) (x : Switch) → Grows x (obey o x)
obey_grows (Install v t) x = install_grows v t x
obey_grows (Stamp v) x = stamp_grows v x
obey_grows (Round v r) x = grows_refl x
obey_grows (Remove v) x = remove_grows v x

-- orders leave the marks alone
pub obey_latest : (o : Order) (x : Switch) → x.latest ≡ (obey o x).latest
obey_latest (Install v t) x = by_test (λ (y : Switch). x.latest ≡ y.latest) (leb x.floor v && not (knows v x.held)) (λ _. refl) (λ _. refl)
obey_latest (Stamp v) x = by_test (λ (y : Switch). x.latest ≡ y.latest) (ltb x.stamp v && knows v x.held) (λ _. refl) (λ _. refl)
obey_latest (Round v r) x = refl
obey_latest (Remove v) x = by_test (λ (y : Switch). x.latest ≡ y.latest) (ltb v x.stamp) (λ _. refl) (λ _. refl)

since_later : (k l n : Mark) → T (later n l) → Since k l → Since k n
since_later k l n t s = grind (arith, nat_tests)

pub mark_grows : (p : ℕ) (m : Mark) (x : Switch) → Grows x (keep_mark p m x)
mark_grows p m x = by_test (Grows x) (later m (x.latest p))
    (λ y. record {
      floor = le_refl x.floor;
      stamp = le_refl x.stamp;
      kept = λ u k. k;
      latest = λ q k s. go q k (eqb q p) (eqb→eq q p) y s;
    })
    (λ _. grows_refl x)
  where
    go : (q : ℕ) (k : Mark) (b : Bool) → (T b → q ≡ p) → T (later m (x.latest p)) → Since k (x.latest q) → Since k (cond b m (x.latest q))
    go q k false e y s = s
    go q k true e y s = since_later k (x.latest p) m y (subst (λ (n : ℕ). Since k (x.latest n)) (e tt) s)

module _ (h : ℕ) (m : Time) (a : ℕ → Plan) (i : ℕ) where
  install_has : (v : ℕ) (t : Table) (xs : List Held) (n : ℕ) → Spans m → Asked h m a i (Install v t) → n ≤ v → T (not (knows v xs)) → Has h m a i xs n → Has h m a i (xs ++ (held v t ∷ [])) n
  install_has v t xs n s (inl y) l b (old z f k) = absurd (T_not (knows v xs) b (z.all v (omega arith)))
  install_has v t xs n s (inr y) l b (old z f k) = both (holds_as (λ u. ⊎_elim inl (λ e. inr (e ∙ y.0))) (λ u. ⊎_elim inl (λ e. inr (e ∙ sym y.0))) (holds_more a i xs v t y.2 b z)) f y.1
  install_has v t xs n s (inl y) l b (both z f k) = absurd (T_not (knows v xs) b (z.all v (inl (omega arith))))
  install_has v t xs n s (inr y) l b (both z f k) = absurd (T_not (knows v xs) b (z.all v (inr y.0)))
  install_has v t xs n s (inl y) l b (new z f k) = absurd (omega arith)
  install_has v t xs n s (inr y) l b (new z f k) = absurd (T_not (knows v xs) b (z.all v y.0))

  remove_has : (v : ℕ) (xs : List Held) (n : ℕ) → Spans m → Asked h m a i (Remove v) → Has h m a i xs n → Has h m a i (without v xs) (cond (leb n v) (v + 1) n)
  remove_has v xs n s y (old z f k) = old (holds_as (λ u e. e.0) (λ u e. (e, λ g. omega arith)) (holds_less a i xs v z)) (grind (arith, nat_tests)) k
  remove_has v xs n s (inl y) (both z f k) = both (holds_as (λ u e. e.0) (λ u e. (e, λ g. omega arith)) (holds_less a i xs v z)) (grind (arith, nat_tests)) k
  remove_has v xs n s (inr y) (both z f k) = new (holds_as (λ u e. ⊎_elim (λ g. absurd (e.1 (g ∙ sym y.0))) (λ g. g) e.0) (λ u e. (inr e, λ g. omega arith)) (holds_less a i xs v z)) (grind (arith, nat_tests)) y.1
  remove_has v xs n s y (new z f k) = new (holds_as (λ u e. e.0) (λ u e. (e, λ g. omega arith)) (holds_less a i xs v z)) (grind (arith, nat_tests)) k

  -- a switch that fits the desk's stage carries out an order that was given, and still fits
  pub obey_fit : (o : Order) (x : Switch) → Spans m → Asked h m a i o → Fit h m a i x → Fit h m a i (obey o x)
  obey_fit (Install v t) x s y f = by_test (Fit h m a i) (leb x.floor v && not (knows v x.held))
      (λ z. record { has = install_has v t x.held x.floor s y (leb→le x.floor v (and_l (leb x.floor v) (not (knows v x.held)) z)) (and_r (leb x.floor v) (not (knows v x.held)) z) f.has; stamps = f.stamps })
      (λ _. f)
  obey_fit (Stamp v) x s y f = by_test (Fit h m a i) (ltb x.stamp v && knows v x.held)
      (λ z. let l : x.stamp < v = ltb→lt x.stamp v (and_l (ltb x.stamp v) (knows v x.held) z) in record { has = f.has; stamps = let g = f.stamps in inr (omega arith) })
      (λ _. f)
  obey_fit (Round v r) x s y f = f
  obey_fit (Remove v) x s y f = by_test (Fit h m a i) (ltb v x.stamp) (λ _. record { has = remove_has v x.held x.floor s y f.has; stamps = f.stamps }) (λ _. f)

  pub mark_fit : (p : ℕ) (k : Mark) (x : Switch) → Fit h m a i x → Fit h m a i (keep_mark p k x)
  mark_fit p k x f = by_test (Fit h m a i) (later k (x.latest p)) (λ _. record { has = f.has; stamps = f.stamps }) (λ _. f)

  -- a timely frame meets its table
  pub meets : (v : ℕ) (xs : List Held) (n c : ℕ) → Spans m → ((v ≡ m.from) × (c + m.rank ≤ h + 2)) ⊎ ((v ≡ m.to) × (2 ≤ m.rank)) → Has h m a i xs n → T (knows v xs) × (table_of v xs ≡ (a v).table i)
  meets v xs n c s y (old z f k) = let e : v ≡ m.from = omega arith in (z.all v e, z.tables v e)
  meets v xs n c s y (both z f k) = let e : (v ≡ m.from) ⊎ (v ≡ m.to) = ⊎_elim (λ b. inl b.0) (λ b. inr b.0) y in (z.all v e, z.tables v e)
  meets v xs n c s y (new z f k) = let e : v ≡ m.to = omega arith in (z.all v e, z.tables v e)

-- at each port with a cable the mark is reached
reach_at : (n : ℕ) (wire : ℕ → Wire) (m : Mark) (latest : ℕ → Mark) → T (all_reach n wire m latest) → (p j q : ℕ) → p < n → wire p ≡ To j q → T (reaches m (latest p))
unfolding all_reach
reach_at zero wire m latest t p j q l e = absurd (omega arith)
reach_at (suc n) wire m latest t p j q l e = ⊎_elim (λ b. reach_at n wire m latest (and_l (all_reach n wire m latest) last t) p j q b e)
    (λ b. subst (λ (x : ℕ). T (reaches m (latest x))) (sym b) (here (wire n) (ap wire (sym b) ∙ e) (and_r (all_reach n wire m latest) last t))) (below_split p n l)
  where
    last : Bool
    last = not (is_cable (wire n)) || reaches m (latest n)

    here : (x : Wire) → x ≡ To j q → T (not (is_cable x) || reaches m (latest n)) → T (reaches m (latest n))
    here x e t = subst (λ (y : Wire). T (not (is_cable y) || reaches m (latest n))) e t

pub reach_all : (n : ℕ) (wire : ℕ → Wire) (m : Mark) (latest : ℕ → Mark) → ((p j q : ℕ) → p < n → wire p ≡ To j q → T (reaches m (latest p))) → T (all_reach n wire m latest)
unfolding all_reach
reach_all zero wire m latest f = tt
reach_all (suc n) wire m latest f = and_both (all_reach n wire m latest) (not (is_cable (wire n)) || reaches m (latest n)) (reach_all n wire m latest (λ p j q l e. f p j q (omega arith) e)) (go (wire n) refl)
  where
    go : (x : Wire) → wire n ≡ x → T (not (is_cable x) || reaches m (latest n))
    go Outside e = tt
    go (To j q) e = f n j q (omega arith) e
    go Nothing e = tt

-- what is done when an order has been carried out is done for good
pub done_did : (w : Net) → GoodNet w → (m : Time) (a : ℕ → Plan) (i : ℕ) (x : Switch) → Spans m → Fit w.hops m a i x → (o : Order) → Asked w.hops m a i o → T (done w.ports (w.wire i) o x) → Did w i x (answer_to o)
done_did w good m a i x s f (Install v t) y d = inl d
done_did w good m a i x s f (Stamp v) y d = let e = eqb→eq x.stamp v d in omega arith
done_did w good m a i x s f (Round v r) y d = λ j q p e. let b = good.both j q i p e in
    go (x.latest p) (reach_at w.ports (w.wire i) (mark_of v r) x.latest d p j q (good.ends j q i p e).1 b)
  where
    go : (l : Mark) → T (reaches (mark_of v r) l) → Since (mark_of v r) l
    go l t = grind (arith, nat_tests)
done_did w good m a i x s f (Remove v) y d = go f.has y
  where
    go : Has w.hops m a i x.held x.floor → Asked w.hops m a i (Remove v) → v < x.floor
    go (old z g k) y = omega arith
    go (both z g k) (inl y) = omega arith
    go (both z g k) (inr y) = absurd (T_not (knows v x.held) d (z.all v (inl y.0)))
    go (new z g k) y = omega arith
