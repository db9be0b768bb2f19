-- What a step does to the answers: those that were sent stay, and a new one is to an order that was given.
use Rattle.std.proofs.Common.{◌≡◌, ℕ, Bool, true, false, cond, T, eqb, ◌⊎◌, List, [], ◌∷◌, ◌++◌, Some, None, Option, sym, refl, ap, ◌∙◌, subst, inl, inr, ⊎_elim, eqb→eq}
use mathlib.Core.List.Memᴰ
use mathlib.Core.List.{Memᴰ}
use Rattle.packet.specs.Packet.{Packet, field}
use Rattle.packet.specs.Table.{sent}
use Rattle.run.specs.Net.{Net, Wire, Outside, To, Nothing}
use Rattle.run.specs.Order.{Order, Install, Stamp, Round, Remove, Answer, answer_to}
use Rattle.run.specs.Switch.{mark_of, Frame, Switch, Message, Reply, MarkOn, FrameOn, Leave, Turn, knows, table_of, obey, marks_for, done, pass_on, take_frame, take_mark, take_order, fresh}
use Rattle.run.specs.Run.{Entry, frame, mark, State, Step, enter, arrive, lose, order, hear, next, change, with_switch, with_queue, with_entry, turned, entry}
use Rattle.run.proofs.Lists.{by_test, never}
use Rattle.run.proofs.Frames.{pass_mem}
use Rattle.run.proofs.Orders.{marks_mem}
use Rattle.run.proofs.Moves.{reply_of, replies, moves_add}

pub record Answers (s t : State) : Type 0 where
  pub old : (j : ℕ) (a : Answer) → Memᴰ a (s.answered j) → Memᴰ a (t.answered j)
  pub only : (j : ℕ) (a : Answer) → Memᴰ a (t.answered j) → Memᴰ a (s.answered j) ⊎ ((o : Order) × Memᴰ o (s.given j) × (a ≡ answer_to o))

same : (s t : State) → t.answered ≡ s.answered → Answers s t
same s t e = record { old = λ j a m. subst (λ (f : ℕ → List Answer). Memᴰ a (f j)) (sym e) m; only = λ j a m. inl (subst (λ (f : ℕ → List Answer). Memᴰ a (f j)) e m) }

-- what is replied was sent as a reply
replied : (ms : List Message) (a : Answer) → Memᴰ a (replies ms) → Memᴰ (Reply a) ms
unfolding replies
replied [] a m = elim m [ ]
replied (x ∷ ms) a m = ⊎_elim (λ y. Memᴰ.head (one x y)) (λ y. Memᴰ.tail (replied ms a y)) (Memᴰ.append_cases (reply_of x) m)
  where
    one : (x : Message) → Memᴰ a (reply_of x) → Reply a ≡ x
    one (Reply o) y = ap Reply (Memᴰ.eq_of_singleton y)
    one (MarkOn p k) y = elim y [ ]
    one (FrameOn p f) y = elim y [ ]
    one (Leave o) y = elim y [ ]

-- a switch's turn, whose replies are to orders that it was given
turn : (s u : State) → u.answered ≡ s.answered → (i : ℕ) (of : Option Entry) (t : Turn) →
    ((a : Answer) → Memᴰ (Reply a) t.sends → (o : Order) × Memᴰ o (s.given i) × (a ≡ answer_to o)) → Answers s (turned i of t u)
turn s u e i of t f = record {
  old = λ j a m. subst (Memᴰ a) (sym (adds j)) (Memᴰ.append_left (cond (eqb j i) (replies t.sends) []) m);
  only = λ j a m. ⊎_elim inl (λ y. inr (new j a (eqb j i) (eqb→eq j i) y)) (Memᴰ.append_cases (s.answered j) (subst (Memᴰ a) (adds j) m));
}
  where
    adds : (j : ℕ) → (turned i of t u).answered j ≡ s.answered j ++ cond (eqb j i) (replies t.sends) []
    adds j = (moves_add i of t.sends (with_switch i t.after u)).answered j ∙ ap (λ (g : ℕ → List Answer). g j ++ cond (eqb j i) (replies t.sends) []) e

    new : (j : ℕ) (a : Answer) (b : Bool) → (T b → j ≡ i) → Memᴰ a (cond b (replies t.sends) []) → (o : Order) × Memᴰ o (s.given j) × (a ≡ answer_to o)
    new j a true k y = let z = f a (replied t.sends a y) in (z.0, subst (λ (n : ℕ). Memᴰ z.0 (s.given n)) (sym (k tt)) z.1, z.2)
    new j a false k y = elim y [ ]

-- a frame brings no reply
no_reply : (A : Type 0) (wire : ℕ → Wire) (f : Frame) (x : Switch) (a : Answer) → Memᴰ (Reply a) (take_frame wire f x).sends → A
no_reply A wire f x a m = by_test (λ (ms : List Message). Memᴰ (Reply a) ms → A) (knows f.version x.held)
    (λ _ y. let r = pass_mem wire f (sent (table_of f.version x.held) f.packet) (Reply a) y in go r.0 (wire (field 0 r.0)) r.2)
    (λ _ y. elim y [ ]) m
  where
    go : (o : Packet) (z : Wire) → Memᴰ (Reply a) (pass_on f o z) → A
    go o Outside y = let e = Memᴰ.eq_of_singleton y in never (cc)
    go o (To j q) y = by_test (λ (ms : List Message). Memᴰ (Reply a) ms → A) (eqb f.hops 0) (λ _ z. elim z [ ]) (λ _ z. let e = Memᴰ.eq_of_singleton z in never (cc)) y
    go o Nothing y = elim y [ ]

-- an order brings the reply to it alone
order_reply : (n : ℕ) (wire : ℕ → Wire) (o : Order) (x : Switch) (a : Answer) → Memᴰ (Reply a) (take_order n wire o x).sends → a ≡ answer_to o
order_reply n wire o x a m = ⊎_elim (marks o) (by_test (λ (ms : List Message). Memᴰ (Reply a) ms → a ≡ answer_to o) (done n wire o (obey o x)) (λ _ y. let e = Memᴰ.eq_of_singleton y in cc) (λ _ y. elim y [ ]))
    (Memᴰ.append_cases (marks_for n wire o) m)
  where
    marks : (o : Order) → Memᴰ (Reply a) (marks_for n wire o) → a ≡ answer_to o
    marks (Install v t) y = elim y [ ]
    marks (Stamp v) y = elim y [ ]
    marks (Round v r) y = let e = (marks_mem n wire (mark_of v r) (Reply a) y).4 in never (cc)
    marks (Remove v) y = elim y [ ]

pub answers : (w : Net) {s t : State} → Step w s t → Answers s t
answers w (enter s i l p n e) = turn s (with_entry (entry s i p) s) refl i (Some (entry s i p)) (take_frame (w.wire i) (fresh w.hops p (s.switch i)) (s.switch i)) (λ a. no_reply ((o : Order) × Memᴰ o (s.given i) × (a ≡ answer_to o)) (w.wire i) (fresh w.hops p (s.switch i)) (s.switch i) a)
answers w (arrive s j q i p e (frame c) rest m) = turn s (with_queue j q rest s) refl i (Some c.entry) (take_frame (w.wire i) c.frame (s.switch i)) (λ a. no_reply ((o : Order) × Memᴰ o (s.given i) × (a ≡ answer_to o)) (w.wire i) c.frame (s.switch i) a)
answers w (arrive s j q i p e (mark k) rest m) = turn s (with_queue j q rest s) refl i None (take_mark p k (s.switch i)) (λ a y. elim y [ ])
answers w (lose s j q i p e (frame c) front rest m) = same s _ refl
answers w (lose s j q i p e (mark k) front rest m) = same s _ refl
answers w (order s i l o m) = turn s s refl i None (take_order w.ports (w.wire i) o (s.switch i)) (λ a y. (o, m, order_reply w.ports (w.wire i) o (s.switch i) a y))
answers w (hear s i l o m n) = same s _ refl
answers w (next s b all) = same s _ refl
answers w (change s v a g idle room) = same s _ refl
