-- What a switch sends is moved: what that changes, and that it keeps the invariant.
use Rattle.std.proofs.Common.{◌≡◌, ℕ, Bool, true, false, cond, ◌&&◌, T, eqb, List, [], ◌∷◌, ◌++◌, Some, None, Option, sym, refl, ap, ◌∙◌, subst, ⊎_elim, append_assoc, append-nil, eqb→eq}
use mathlib.Core.List.Memᴰ
use mathlib.Core.List.{Memᴰ}
use Rattle.run.specs.At.{at, at2}
use Rattle.run.specs.Net.{Net, Plan, Cable}
use Rattle.run.specs.Order.{Answer}
use Rattle.run.specs.Switch.{Mark, Switch, Message, Reply, MarkOn, FrameOn, Leave}
use Rattle.run.specs.Desk.{Desk}
use Rattle.run.specs.Run.{Entry, Item, frame, mark, Exit, State, put_on, move, move_all}
use Rattle.run.proofs.Inv.{Time, time_at, time_of, Ripe, Rides, Did, Sound, Inv}
use Rattle.run.proofs.Lists.{never, at_self}
use Rattle.run.proofs.Cables.{Last}
use Rattle.run.proofs.Keeps.{keeps_put, keeps_answer, keeps_exit}

-- what messages put on the cable at port p
abbrev pub item_of : Option Entry → ℕ → Message → List Item
item_of of p (Reply o) = []
item_of of p (MarkOn r k) = cond (eqb p r) (mark k ∷ []) []
item_of (Some e) p (FrameOn r f) = cond (eqb p r) (frame (record { frame = f; entry = e }) ∷ []) []
item_of None p (FrameOn r f) = []
item_of of p (Leave o) = []

unfoldable pub items : Option Entry → ℕ → List Message → List Item
items of p [] = []
items of p (m ∷ ms) = item_of of p m ++ items of p ms

abbrev pub reply_of : Message → List Answer
reply_of (Reply o) = o ∷ []
reply_of (MarkOn r k) = []
reply_of (FrameOn r f) = []
reply_of (Leave o) = []

unfoldable pub replies : List Message → List Answer
replies [] = []
replies (m ∷ ms) = reply_of m ++ replies ms

abbrev pub exit_of : ℕ → Option Entry → Message → List Exit
exit_of i of (Reply o) = []
exit_of i of (MarkOn r k) = []
exit_of i of (FrameOn r f) = []
exit_of i (Some e) (Leave o) = record { entry = e; at = i; last = o } ∷ []
exit_of i None (Leave o) = []

unfoldable pub leaving : ℕ → Option Entry → List Message → List Exit
leaving i of [] = []
leaving i of (m ∷ ms) = exit_of i of m ++ leaving i of ms

-- t is s with something added at switch i: at a port, to its answers, to what has left
pub record Adds (i : ℕ) (on : ℕ → List Item) (said : List Answer) (out : List Exit) (s t : State) : Type 0 where
  pub queue : (j q : ℕ) → t.queue j q ≡ s.queue j q ++ cond (eqb j i) (on q) []
  pub answered : (j : ℕ) → t.answered j ≡ s.answered j ++ cond (eqb j i) said []
  pub exits : t.exits ≡ s.exits ++ out
  pub switch : t.switch ≡ s.switch
  pub given : t.given ≡ s.given
  pub desk : t.desk ≡ s.desk
  pub plans : t.plans ≡ s.plans
  pub entries : t.entries ≡ s.entries
  pub fallen : t.fallen ≡ s.fallen

module _ {A : Type 0} where
  add_none : (b : Bool) (xs : List A) → xs ≡ xs ++ cond b [] []
  add_none true xs = sym (append-nil xs)
  add_none false xs = sym (append-nil xs)

  cond_append : (b : Bool) (xs ys : List A) → cond b (xs ++ ys) [] ≡ cond b xs [] ++ cond b ys []
  cond_append true xs ys = refl
  cond_append false xs ys = refl

  -- something more, and then something more
  add_more : (b : Bool) (xs : List A) {ys zs : List A} (us vs : List A) → ys ≡ xs ++ cond b us [] → zs ≡ ys ++ cond b vs [] → zs ≡ xs ++ cond b (us ++ vs) []
  add_more b xs us vs e f = f ∙ ap (λ (l : List A). l ++ cond b vs []) e ∙ append_assoc xs (cond b us []) (cond b vs []) ∙ ap (λ (l : List A). xs ++ l) (sym (cond_append b us vs))

  put_adds : (i p : ℕ) (x : A) (f : ℕ → ℕ → List A) (j q : ℕ) → at2 i p (f i p ++ (x ∷ [])) f j q ≡ f j q ++ cond (eqb j i) (cond (eqb q p) (x ∷ []) []) []
  put_adds i p x f j q = go (eqb j i) (eqb q p) (eqb→eq j i) (eqb→eq q p)
    where
      go : (b c : Bool) → (T b → j ≡ i) → (T c → q ≡ p) → cond (b && c) (f i p ++ (x ∷ [])) (f j q) ≡ f j q ++ cond b (cond c (x ∷ []) []) []
      go true true d e = let d' = d tt in let e' = e tt in cc
      go true false d e = sym (append-nil (f j q))
      go false c d e = sym (append-nil (f j q))

  at_adds : (i : ℕ) (xs : List A) (f : ℕ → List A) (j : ℕ) → at i (f i ++ xs) f j ≡ f j ++ cond (eqb j i) xs []
  at_adds i xs f j = go (eqb j i) (eqb→eq j i)
    where
      go : (b : Bool) → (T b → j ≡ i) → cond b (f i ++ xs) (f j) ≡ f j ++ cond b xs []
      go true e = ap (λ (n : ℕ). f n ++ xs) (sym (e tt))
      go false e = sym (append-nil (f j))

adds_none : (i : ℕ) (s : State) → Adds i (λ q. []) [] [] s s
adds_none i s = record { queue = λ j q. add_none (eqb j i) (s.queue j q); answered = λ j. add_none (eqb j i) (s.answered j); exits = sym (append-nil s.exits); switch = refl; given = refl; desk = refl; plans = refl; entries = refl; fallen = refl }

adds_put : (i p : ℕ) (x : Item) (s : State) → Adds i (λ q. cond (eqb q p) (x ∷ []) []) [] [] s (put_on i p x s)
adds_put i p x s = record { queue = put_adds i p x s.queue; answered = λ j. add_none (eqb j i) (s.answered j); exits = sym (append-nil s.exits); switch = refl; given = refl; desk = refl; plans = refl; entries = refl; fallen = refl }

move_adds : (i : ℕ) (of : Option Entry) (m : Message) (s : State) → Adds i (λ q. item_of of q m) (reply_of m) (exit_of i of m) s (move i of m s)
move_adds i of (Reply o) s = record { queue = λ j q. add_none (eqb j i) (s.queue j q); answered = at_adds i (o ∷ []) s.answered; exits = sym (append-nil s.exits); switch = refl; given = refl; desk = refl; plans = refl; entries = refl; fallen = refl }
move_adds i of (MarkOn p k) s = adds_put i p (mark k) s
move_adds i (Some e) (FrameOn p f) s = adds_put i p (frame (record { frame = f; entry = e })) s
move_adds i None (FrameOn p f) s = adds_none i s
move_adds i (Some e) (Leave o) s = record { queue = λ j q. add_none (eqb j i) (s.queue j q); answered = λ j. add_none (eqb j i) (s.answered j); exits = refl; switch = refl; given = refl; desk = refl; plans = refl; entries = refl; fallen = refl }
move_adds i None (Leave o) s = adds_none i s

pub moves_add : (i : ℕ) (of : Option Entry) (ms : List Message) (s : State) → Adds i (λ q. items of q ms) (replies ms) (leaving i of ms) s (move_all i of ms s)
unfolding items replies leaving move_all
moves_add i of [] s = adds_none i s
moves_add i of (m ∷ ms) s = let a = move_adds i of m s in let b = moves_add i of ms (move i of m s) in record {
  queue = λ j q. add_more (eqb j i) (s.queue j q) (item_of of q m) (items of q ms) (a.queue j q) (b.queue j q);
  answered = λ j. add_more (eqb j i) (s.answered j) (reply_of m) (replies ms) (a.answered j) (b.answered j);
  exits = add_more true s.exits (exit_of i of m) (leaving i of ms) a.exits b.exits;
  switch = b.switch ∙ a.switch;
  given = b.given ∙ a.given;
  desk = b.desk ∙ a.desk;
  plans = b.plans ∙ a.plans;
  entries = b.entries ∙ a.entries;
  fallen = b.fallen ∙ a.fallen;
}

-- what two lists of messages add
pub items_append : (of : Option Entry) (q : ℕ) (ms ns : List Message) → items of q (ms ++ ns) ≡ items of q ms ++ items of q ns
unfolding items
items_append of q [] ns = refl
items_append of q (m ∷ ms) ns = ap (λ (xs : List Item). item_of of q m ++ xs) (items_append of q ms ns) ∙ sym (append_assoc (item_of of q m) (items of q ms) (items of q ns))

pub replies_append : (ms ns : List Message) → replies (ms ++ ns) ≡ replies ms ++ replies ns
unfolding replies
replies_append [] ns = refl
replies_append (m ∷ ms) ns = ap (λ (xs : List Answer). reply_of m ++ xs) (replies_append ms ns) ∙ sym (append_assoc (reply_of m) (replies ms) (replies ns))

-- what one of the messages adds is there
pub mem_items : (of : Option Entry) (p : ℕ) (ms : List Message) (m : Message) → Memᴰ m ms → (x : Item) → Memᴰ x (item_of of p m) → Memᴰ x (items of p ms)
unfolding items
mem_items of p [] m z x y = elim z [ ]
mem_items of p (n ∷ ms) m z x y = ⊎_elim (λ e. Memᴰ.append_left (items of p ms) (subst (λ (k : Message). Memᴰ x (item_of of p k)) e y))
    (λ k. Memᴰ.append_right (item_of of p n) (mem_items of p ms m k x y)) (Memᴰ.cases_cons z)

pub mem_leaving : (i : ℕ) (of : Option Entry) (ms : List Message) (m : Message) → Memᴰ m ms → (x : Exit) → Memᴰ x (exit_of i of m) → Memᴰ x (leaving i of ms)
unfolding leaving
mem_leaving i of [] m z x y = elim z [ ]
mem_leaving i of (n ∷ ms) m z x y = ⊎_elim (λ e. Memᴰ.append_left (leaving i of ms) (subst (λ (k : Message). Memᴰ x (exit_of i of k)) e y))
    (λ k. Memᴰ.append_right (exit_of i of n) (mem_leaving i of ms m k x y)) (Memᴰ.cases_cons z)

module _ {i : ℕ} {on : ℕ → List Item} {said : List Answer} {out : List Exit} {s t : State} (a : Adds i on said out s t) where
  -- what was there is there
  pub adds_queue : (j q : ℕ) (x : Item) → Memᴰ x (s.queue j q) → Memᴰ x (t.queue j q)
  adds_queue j q x m = subst (Memᴰ x) (sym (a.queue j q)) (Memᴰ.append_left (cond (eqb j i) (on q) []) m)

  pub adds_exits : (x : Exit) → Memᴰ x s.exits → Memᴰ x t.exits
  adds_exits x m = subst (Memᴰ x) (sym a.exits) (Memᴰ.append_left out m)

  -- and so is what was added
  pub added_queue : (q : ℕ) (x : Item) → Memᴰ x (on q) → Memᴰ x (t.queue i q)
  added_queue q x m = subst (Memᴰ x) (sym (a.queue i q)) (Memᴰ.append_right (s.queue i q) (at_self (Memᴰ x) i (on q) [] m))

  pub added_exits : (x : Exit) → Memᴰ x out → Memᴰ x t.exits
  added_exits x m = subst (Memᴰ x) (sym a.exits) (Memᴰ.append_right s.exits m)

-- a message that keeps the invariant. x: the switch that sends it
abbrev pub Ok : Net → (ℕ → Plan) → Time → List Entry → ℕ → Switch → Option Entry → Message → Type 0
Ok w a m es i x of (Reply o) = Did w i x o
Ok w a m es i x of (MarkOn p k) = (j : ℕ) × (q : ℕ) × Cable w i p j q × Ripe m k
Ok w a m es i x (Some e) (FrameOn p f) = (j : ℕ) × (q : ℕ) × Cable w i p j q × Rides w a m j (record { frame = f; entry = e }) × Last w m (frame (record { frame = f; entry = e })) × Memᴰ e es
Ok w a m es i x None (FrameOn p f) = Unit {0}
Ok w a m es i x (Some e) (Leave o) = Sound w a es (record { entry = e; at = i; last = o })
Ok w a m es i x None (Leave o) = Unit {0}

mark_last : (w : Net) (m : Time) (k : Mark) → Last w m (mark k)
mark_last w m k = λ _ _ c e _. never (cc)

module _ (w : Net) (a : ℕ → Plan) (i : ℕ) where
  move_keeps : (of : Option Entry) (m : Message) (s : State) → Ok w a (time_of w s) s.entries i (s.switch i) of m → Inv w a s → Inv w a (move i of m s)
  move_keeps of (Reply o) s k v = keeps_answer w a s v i o k
  move_keeps of (MarkOn p m) s k v = keeps_put w a s v i p k.0 k.1 k.2 (mark m) k.3 (mark_last w (time_of w s) m) tt
  move_keeps (Some e) (FrameOn p f) s k v = keeps_put w a s v i p k.0 k.1 k.2 (frame (record { frame = f; entry = e })) k.3 k.4 k.5
  move_keeps None (FrameOn p f) s k v = v
  move_keeps (Some e) (Leave o) s k v = keeps_exit w a s v (record { entry = e; at = i; last = o }) k
  move_keeps None (Leave o) s k v = v

  pub moves_keep : (of : Option Entry) (ms : List Message) (s : State) → ((m : Message) → Memᴰ m ms → Ok w a (time_of w s) s.entries i (s.switch i) of m) → Inv w a s → Inv w a (move_all i of ms s)
  unfolding move_all
  moves_keep of [] s k v = v
  moves_keep of (m ∷ ms) s k v = let b = move_adds i of m s in moves_keep of ms (move i of m s)
      (λ n z. subst (λ (es : List Entry). Ok w a (time_of w (move i of m s)) es i ((move i of m s).switch i) of n) (sym b.entries)
      (subst (λ (f : ℕ → Switch). Ok w a (time_of w (move i of m s)) s.entries i (f i) of n) (sym b.switch)
      (subst (λ (d : Desk). Ok w a (time_at w d d.stage) s.entries i (s.switch i) of n) (sym b.desk) (k n (Memᴰ.tail z)))))
      (move_keeps of m s (k m (Memᴰ.head refl)) v)
