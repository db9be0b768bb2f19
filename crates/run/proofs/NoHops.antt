-- In a net without hops nothing is ever on a cable.
use Rattle.std.proofs.Common.{◌≡◌, ℕ, eqb, List, [], ◌∷◌, ◌++◌, Some, None, Option, sym, refl, ap, ◌∙◌, subst, ⊎_elim, arith}
use mathlib.Core.List.Memᴰ
use mathlib.Core.List.{Memᴰ}
use Rattle.packet.specs.Packet.{Packet, field}
use Rattle.packet.specs.Table.{Table, sent}
use Rattle.run.specs.Net.{Net, GoodNet, Wire, Outside, To, Nothing}
use Rattle.run.specs.Order.{Order, Install, Stamp, Round, Remove}
use Rattle.run.specs.Switch.{Frame, Switch, Message, Turn, knows, table_of, fresh, obey, done, pass_on, pass_all, take_frame, take_packet, take_order}
use Rattle.run.specs.Desk.{Stage, Idle, Installing, Stamping, Flushing, Removing, orders_in, onwards}
use Rattle.run.specs.Run.{Entry, Item, State, Step, enter, arrive, lose, order, hear, next, change, stay, more, Reach, with_switch, with_entry, turned, entry}
use Rattle.run.specs.Cases.{NoHops}
use Rattle.run.proofs.Inv.{StageOk}
use Rattle.run.proofs.Lists.{by_test, neqb, never}
use Rattle.run.proofs.Moves.{items, items_append, moves_add}
use Rattle.run.proofs.Whole.{now}

-- a frame without hops goes on no cable
passes_none : (wire : ℕ → Wire) (f : Frame) → f.hops ≡ 0 → (e : Entry) (q : ℕ) (os : List Packet) → items (Some e) q (pass_all wire f os) ≡ []
unfolding pass_all items
passes_none wire f z e q [] = refl
passes_none wire f z e q (o ∷ os) = items_append (Some e) q (pass_on f o (wire (field 0 o))) (pass_all wire f os) ∙ ap (λ (xs : List Item). xs ++ items (Some e) q (pass_all wire f os)) (one (wire (field 0 o))) ∙ passes_none wire f z e q os
  where
    one : (x : Wire) → items (Some e) q (pass_on f o x) ≡ []
    one Outside = refl
    one (To j p) = by_test (λ (ms : List Message). items (Some e) q ms ≡ []) (eqb f.hops 0) (λ _. refl) (λ t. absurd (neqb f.hops 0 t z))
    one Nothing = refl

frame_none : (wire : ℕ → Wire) (f : Frame) → f.hops ≡ 0 → (e : Entry) (q : ℕ) (x : Switch) → items (Some e) q (take_frame wire f x).sends ≡ []
unfolding items
frame_none wire f z e q x = by_test (λ (ms : List Message). items (Some e) q ms ≡ []) (knows f.version x.held) (λ _. passes_none wire f z e q (sent (table_of f.version x.held) f.packet)) (λ _. refl)

-- no round is given
abbrev NoRound : Order → Type 0
NoRound (Install v t) = Unit {0}
NoRound (Stamp v) = Unit {0}
NoRound (Round v r) = ⊥
NoRound (Remove v) = Unit {0}

stage_rounds : (h from to : ℕ) (t : Table) (g : Stage) → h ≡ 0 → StageOk h from to g → (o : Order) → Memᴰ o (orders_in from to t g) → NoRound o
stage_rounds h from to t Idle z k o m = elim m [ ]
stage_rounds h from to t Installing z k o m = subst NoRound (sym (Memᴰ.eq_of_singleton m)) tt
stage_rounds h from to t Stamping z k o m = subst NoRound (sym (Memᴰ.eq_of_singleton m)) tt
stage_rounds h from to t (Flushing r) z k o m = let a = k.1 in let b = k.2 in absurd (omega arith)
stage_rounds h from to t Removing z k o m = subst NoRound (sym (Memᴰ.eq_of_singleton m)) tt

order_none : (n : ℕ) (wire : ℕ → Wire) (o : Order) → NoRound o → (q : ℕ) (x : Switch) → items None q (take_order n wire o x).sends ≡ []
unfolding items
order_none n wire (Install v t) k q x = by_test (λ (ms : List Message). items None q ms ≡ []) (done n wire (Install v t) (obey (Install v t) x)) (λ _. refl) (λ _. refl)
order_none n wire (Stamp v) k q x = by_test (λ (ms : List Message). items None q ms ≡ []) (done n wire (Stamp v) (obey (Stamp v) x)) (λ _. refl) (λ _. refl)
order_none n wire (Round v r) k q x = absurd k
order_none n wire (Remove v) k q x = by_test (λ (ms : List Message). items None q ms ≡ []) (done n wire (Remove v) (obey (Remove v) x)) (λ _. refl) (λ _. refl)

record Bare (s : State) : Type 0 where
  queue : (j q : ℕ) → s.queue j q ≡ []
  given : (i : ℕ) (o : Order) → Memᴰ o (s.given i) → NoRound o

-- a switch that sends nothing on its cables
turned_bare : (i : ℕ) (of : Option Entry) (t : Turn) (s : State) → ((q : ℕ) → items of q t.sends ≡ []) → Bare s → Bare (turned i of t s)
turned_bare i of t s n b = let a = moves_add i of t.sends (with_switch i t.after s) in record {
  queue = λ j q. a.queue j q ∙ by_test (λ (xs : List Item). s.queue j q ++ xs ≡ []) (eqb j i) (λ _. ap (λ (xs : List Item). s.queue j q ++ xs) (n q) ∙ none j q) (λ _. none j q);
  given = λ k o m. b.given k o (subst (λ (f : ℕ → List Order). Memᴰ o (f k)) a.given m);
}
  where
    none : (j q : ℕ) → s.queue j q ++ [] ≡ []
    none j q = ap (λ (xs : List Item). xs ++ []) (b.queue j q)

full : {A : Type 0} {x : Item} {xs ys : List Item} → ys ≡ x ∷ xs → ys ≡ [] → A
full e f = never (cc)

full_in : {A : Type 0} (front rest : List Item) (x : Item) {ys : List Item} → ys ≡ front ++ (x ∷ rest) → ys ≡ [] → A
full_in [] rest x e f = full e f
full_in (y ∷ front) rest x e f = full e f

step_bare : (w : Net) → w.hops ≡ 0 → {s t : State} → Step w s t → StageOk w.hops t.desk.from t.desk.to t.desk.stage → Bare s → Bare t
step_bare w z (enter s i l p n e) k b = turned_bare i (Some (entry s i p)) (take_packet w.hops (w.wire i) p (s.switch i)) (with_entry (entry s i p) s) (λ q. frame_none (w.wire i) (fresh w.hops p (s.switch i)) z (entry s i p) q (s.switch i)) (record { queue = b.queue; given = b.given })
step_bare w z (arrive s j q i p e x rest m) k b = full m (b.queue j q)
step_bare w z (lose s j q i p e x front rest m) k b = full_in front rest x m (b.queue j q)
step_bare w z (order s i l o m) k b = turned_bare i None (take_order w.ports (w.wire i) o (s.switch i)) s (λ q. order_none w.ports (w.wire i) o (b.given i o m) q (s.switch i)) b
step_bare w z (hear s i l o m n) k b = record { queue = b.queue; given = b.given }
step_bare w z (next s busy all) k b = let d = onwards w.hops s.desk in
    record { queue = b.queue; given = λ i o m. ⊎_elim (b.given i o) (stage_rounds w.hops d.from d.to ((s.plans d.to).table i) d.stage z k o) (Memᴰ.append_cases (s.given i) m) }
step_bare w z (change s v a g idle room) k b = record { queue = b.queue; given = λ i o m. ⊎_elim (b.given i o) (λ n. subst NoRound (sym (Memᴰ.eq_of_singleton n)) tt) (Memᴰ.append_cases (s.given i) m) }

bare : (w : Net) → GoodNet w → w.hops ≡ 0 → {s : State} → Reach w s → Bare s
bare w good z stay = record { queue = λ j q. refl; given = λ i o m. elim m [ ] }
bare w good z (more r y) = step_bare w z y (now w good (more r y)).0.stage (bare w good z r)

pub no_hops : NoHops
no_hops w good z s r j q = (bare w good z r).queue j q
