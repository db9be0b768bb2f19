-- Which orders were given, as the desk goes from stage to stage: those that were, and those of the new stage.
use Rattle.std.proofs.Common.{◌≡◌, ℕ, ◌+◌, ◌<◌, ◌≤◌, ltb, ◌⊎◌, List, [], ◌∷◌, sym, refl, ap, ◌∙◌, subst, inl, inr, ⊎_elim, arith, ltb→lt, nltb→le}
use mathlib.Core.List.Memᴰ
use mathlib.Core.List.{Memᴰ}
use Rattle.run.specs.Net.{Plan}
use Rattle.run.specs.Order.{Order, Answer, Installed, Stamped, Reached, Removed, answer_to}
use Rattle.run.specs.Desk.{Stage, Idle, Installing, Stamping, Flushing, Removing, Desk, Busy, orders_in, after_round, on_from, changed}
use Rattle.run.specs.Past.{rank, AskedAt, awaited_in, order_for}
use Rattle.run.proofs.Inv.{StageOk}
use Rattle.run.proofs.Lists.{by_test}

-- from one desk to another, `fresh` is what was given besides
pub record Turns (h from to k from' to' k' : ℕ) (fresh : List Answer) : Type 0 where
  pub old : (a : Answer) → AskedAt h from to k a → AskedAt h from' to' k' a
  pub new : (a : Answer) → Memᴰ a fresh → AskedAt h from' to' k' a
  pub only : (a : Answer) → AskedAt h from' to' k' a → AskedAt h from to k a ⊎ Memᴰ a fresh

-- from desk d to desk e
abbrev pub Goes : ℕ → Desk → Stage → Desk → Stage → Type 0
Goes h d g e n = Turns h d.from d.to (rank h g) e.from e.to (rank h n) (awaited_in e.from e.to n)

-- the new stage's order is the one with this answer
fresh_is : (h from to k : ℕ) (b : Answer) → AskedAt h from to k b → (a : Answer) → Memᴰ a (b ∷ []) → AskedAt h from to k a
fresh_is h from to k b y a m = subst (AskedAt h from to k) (sym (Memᴰ.eq_of_singleton m)) y

-- later in one change
later : (h from to k n : ℕ) → k ≤ n → (a : Answer) → AskedAt h from to k a → AskedAt h from to n a
later h from to k n l (Installed v) y = y
later h from to k n l (Stamped v) y = (y.0, ⊎_elim inl (λ b. inr (b.0, let c = b.1 in omega arith)) y.1)
later h from to k n l (Reached v r) y = (y.0, y.1, y.2, ⊎_elim inl (λ b. inr (b.0, let c = b.1 in omega arith)) y.3)
later h from to k n l (Removed v) y = ⊎_elim inl (λ b. inr (b.0, let c = b.1 in omega arith)) y

module _ (h from to : ℕ) (next : to ≡ from + 1) where
  stamps : Turns h from to 1 from to 2 (Stamped to ∷ [])
  stamps = record { old = later h from to 1 2 (omega arith); new = fresh_is h from to 2 (Stamped to) (omega arith, inr (refl, omega arith)); only = only }
    where
      only : (a : Answer) → AskedAt h from to 2 a → AskedAt h from to 1 a ⊎ Memᴰ a (Stamped to ∷ [])
      only (Installed v) y = inl y
      only (Stamped v) y = ⊎_elim (λ b. inl (y.0, inl b)) (λ b. inr (Memᴰ.head (ap Stamped b.0))) y.1
      only (Reached v r) y = ⊎_elim (λ b. inl (y.0, y.1, y.2, inl b)) (λ b. let c = b.1 in let d = y.1 in absurd (omega arith)) y.3
      only (Removed v) y = ⊎_elim (λ b. inl (inl b)) (λ b. let c = b.1 in absurd (omega arith)) y

  flushes : (r : ℕ) → r < h → Turns h from to (r + 2) from to (r + 1 + 2) (Reached to (r + 1) ∷ [])
  flushes r l = record { old = later h from to (r + 2) (r + 1 + 2) (omega arith); new = fresh_is h from to (r + 1 + 2) (Reached to (r + 1)) (omega arith, omega arith, omega arith, inr (refl, omega arith)); only = only }
    where
      last : (q : ℕ) → q + 2 ≤ r + 1 + 2 → (q + 2 ≤ r + 2) ⊎ (q ≡ r + 1)
      last q m = grind arith

      only : (a : Answer) → AskedAt h from to (r + 1 + 2) a → AskedAt h from to (r + 2) a ⊎ Memᴰ a (Reached to (r + 1) ∷ [])
      only (Installed v) y = inl y
      only (Stamped v) y = inl (y.0, ⊎_elim inl (λ b. inr (b.0, omega arith)) y.1)
      only (Reached v q) y = ⊎_elim (λ b. inl (y.0, y.1, y.2, inl b))
          (λ b. ⊎_elim (λ c. inl (y.0, y.1, y.2, inr (b.0, c))) (λ c. inr (Memᴰ.head (ap (λ (n : ℕ). Reached n q) b.0 ∙ ap (Reached to) c))) (last q b.1)) y.3
      only (Removed v) y = ⊎_elim (λ b. inl (inl b)) (λ b. let c = b.1 in absurd (omega arith)) y

  removes : (r : ℕ) → h ≤ r → r ≤ h → Turns h from to (r + 2) from to (h + 3) (Removed from ∷ [])
  removes r l m = record { old = later h from to (r + 2) (h + 3) (omega arith); new = fresh_is h from to (h + 3) (Removed from) (inr (refl, omega arith)); only = only }
    where
      only : (a : Answer) → AskedAt h from to (h + 3) a → AskedAt h from to (r + 2) a ⊎ Memᴰ a (Removed from ∷ [])
      only (Installed v) y = inl y
      only (Stamped v) y = inl (y.0, ⊎_elim inl (λ b. inr (b.0, omega arith)) y.1)
      only (Reached v q) y = inl (y.0, y.1, y.2, ⊎_elim inl (λ b. inr (b.0, let c = y.2 in omega arith)) y.3)
      only (Removed v) y = ⊎_elim (λ b. inl (inl b)) (λ b. inr (Memᴰ.head (ap Removed b.0))) y

  ends : Turns h from to (h + 3) to to 0 []
  ends = record { old = old; new = λ a m. elim m [ ]; only = λ a y. inl (only a y) }
    where
      up : (v : ℕ) → v ≤ to → (v ≤ from) ⊎ (v ≡ to)
      up v l = grind arith

      old : (a : Answer) → AskedAt h from to (h + 3) a → AskedAt h to to 0 a
      old (Installed v) y = y
      old (Stamped v) y = (y.0, inl (⊎_elim (λ b. omega arith) (λ b. let c = b.0 in omega arith) y.1))
      old (Reached v r) y = (y.0, y.1, y.2, inl (⊎_elim (λ b. omega arith) (λ b. let c = b.0 in omega arith) y.3))
      old (Removed v) y = inl (⊎_elim (λ b. omega arith) (λ b. let c = b.0 in omega arith) y)

      only : (a : Answer) → AskedAt h to to 0 a → AskedAt h from to (h + 3) a
      only (Installed v) y = y
      only (Stamped v) y = (y.0, ⊎_elim (λ b. ⊎_elim inl (λ e. inr (e, omega arith)) (up v b)) (λ b. let c = b.1 in absurd (omega arith)) y.1)
      only (Reached v r) y = (y.0, y.1, y.2, ⊎_elim (λ b. ⊎_elim inl (λ e. inr (e, let c = y.2 in omega arith)) (up v b)) (λ b. let c = b.1 in absurd (omega arith)) y.3)
      only (Removed v) y = ⊎_elim (λ b. ⊎_elim (λ (c : v < from). inl c) (λ (c : v ≡ from). inr (c, omega arith)) (below v b)) (λ b. let c = b.1 in absurd (omega arith)) y
        where
          below : (v : ℕ) → v < to → (v < from) ⊎ (v ≡ from)
          below v l = grind arith

-- a change begins
pub begins : (h : ℕ) (d : Desk) → d.to ≡ d.from → Goes h d Idle (changed (d.to + 1) d) Installing
begins h d e = record { old = old; new = fresh_is h d.from (d.to + 1) 1 (Installed (d.to + 1)) (omega arith, omega arith); only = only }
  where
    old : (a : Answer) → AskedAt h d.from d.to 0 a → AskedAt h d.from (d.to + 1) 1 a
    old (Installed v) y = (y.0, let c = y.1 in omega arith)
    old (Stamped v) y = (y.0, inl (⊎_elim (λ b. b) (λ b. let c = b.0 in omega arith) y.1))
    old (Reached v r) y = (y.0, y.1, y.2, inl (⊎_elim (λ b. b) (λ b. let c = b.0 in omega arith) y.3))
    old (Removed v) y = ⊎_elim inl (λ b. let c = b.1 in absurd (omega arith)) y

    up : (v : ℕ) → v ≤ d.to + 1 → (v ≤ d.to) ⊎ (v ≡ d.to + 1)
    up v l = grind arith

    only : (a : Answer) → AskedAt h d.from (d.to + 1) 1 a → AskedAt h d.from d.to 0 a ⊎ Memᴰ a (Installed (d.to + 1) ∷ [])
    only (Installed v) y = ⊎_elim (λ b. inl (y.0, b)) (λ b. inr (Memᴰ.head (ap Installed b))) (up v y.1)
    only (Stamped v) y = inl (y.0, ⊎_elim inl (λ b. let c = b.1 in absurd (omega arith)) y.1)
    only (Reached v r) y = inl (y.0, y.1, y.2, ⊎_elim inl (λ b. let c = b.1 in absurd (omega arith)) y.3)
    only (Removed v) y = inl (⊎_elim inl (λ b. let c = b.1 in absurd (omega arith)) y)

behind : (h : ℕ) (d : Desk) (r : ℕ) → d.to ≡ d.from + 1 → r ≤ h → Turns h d.from d.to (r + 2) d.from d.to (rank h (after_round h r)) (awaited_in d.from d.to (after_round h r))
behind h d r e l = by_test (λ (n : Stage). Turns h d.from d.to (r + 2) d.from d.to (rank h n) (awaited_in d.from d.to n)) (ltb r h)
    (λ t. flushes h d.from d.to e r (ltb→lt r h t)) (λ t. removes h d.from d.to e r (nltb→le r h t) l)

-- the desk goes on from stage g
pub goes_on : (h : ℕ) (d : Desk) (g : Stage) → StageOk h d.from d.to g → Busy g → Goes h d g (on_from h d g) (on_from h d g).stage
goes_on h d Idle ok b = absurd b
goes_on h d Installing ok b = stamps h d.from d.to ok
goes_on h d Stamping ok b = behind h d 0 ok (omega arith)
goes_on h d (Flushing r) ok b = behind h d r ok.0 ok.2
goes_on h d Removing ok b = ends h d.from d.to ok

-- the orders of a stage are those that have its awaited answers
pub wanted_is : (plans : ℕ → Plan) (i from to : ℕ) (g : Stage) (o : Order) → Memᴰ o (orders_in from to ((plans to).table i) g) → Memᴰ (answer_to o) (awaited_in from to g) × (o ≡ order_for plans i (answer_to o))
wanted_is plans i from to Idle o m = elim m [ ]
wanted_is plans i from to Installing o m = subst (λ (o : Order). Memᴰ (answer_to o) (Installed to ∷ []) × (o ≡ order_for plans i (answer_to o))) (sym (Memᴰ.eq_of_singleton m)) (Memᴰ.head refl, refl)
wanted_is plans i from to Stamping o m = subst (λ (o : Order). Memᴰ (answer_to o) (Stamped to ∷ []) × (o ≡ order_for plans i (answer_to o))) (sym (Memᴰ.eq_of_singleton m)) (Memᴰ.head refl, refl)
wanted_is plans i from to (Flushing r) o m = subst (λ (o : Order). Memᴰ (answer_to o) (Reached to r ∷ []) × (o ≡ order_for plans i (answer_to o))) (sym (Memᴰ.eq_of_singleton m)) (Memᴰ.head refl, refl)
wanted_is plans i from to Removing o m = subst (λ (o : Order). Memᴰ (answer_to o) (Removed from ∷ []) × (o ≡ order_for plans i (answer_to o))) (sym (Memᴰ.eq_of_singleton m)) (Memᴰ.head refl, refl)

pub is_wanted : (plans : ℕ → Plan) (i from to : ℕ) (g : Stage) (a : Answer) → Memᴰ a (awaited_in from to g) → Memᴰ (order_for plans i a) (orders_in from to ((plans to).table i) g)
is_wanted plans i from to Idle a m = elim m [ ]
is_wanted plans i from to Installing a m = Memᴰ.head (ap (order_for plans i) (Memᴰ.eq_of_singleton m))
is_wanted plans i from to Stamping a m = Memᴰ.head (ap (order_for plans i) (Memᴰ.eq_of_singleton m))
is_wanted plans i from to (Flushing r) a m = Memᴰ.head (ap (order_for plans i) (Memᴰ.eq_of_singleton m))
is_wanted plans i from to Removing a m = Memᴰ.head (ap (order_for plans i) (Memᴰ.eq_of_singleton m))

-- the answer to the order with an answer is that answer
pub answer_for : (plans : ℕ → Plan) (i : ℕ) (a : Answer) → answer_to (order_for plans i a) ≡ a
answer_for plans i (Installed v) = refl
answer_for plans i (Stamped v) = refl
answer_for plans i (Reached v r) = refl
answer_for plans i (Removed v) = refl
