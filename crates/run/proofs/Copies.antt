-- Nothing is left out: what a plan says has left, is under way on a cable, or was lost on one.
use Rattle.std.proofs.Common.{◌≡◌, ℕ, suc, pred, ◌<◌, eqb, ◌⊎◌, List, [], ◌∷◌, ◌++◌, Some, None, sym, refl, ap, ◌∙◌, subst, inl, inr, ⊎_elim, arith, eqb→eq, T_not}
use mathlib.Core.List.Memᴰ
use mathlib.Core.List.{Memᴰ}
use Rattle.packet.specs.Packet.{Packet, IsPacket, field, put}
use Rattle.packet.specs.Policy.{Policy, copies}
use Rattle.run.specs.Net.{Net, Plan, GoodNet, Cable, Wire, Outside, Goes, out, on}
use Rattle.run.specs.Order.{Order, Answer}
use Rattle.run.specs.Switch.{Mark, Message, FrameOn, Leave, knows, fresh, onward, pass_on, take_frame, take_mark, take_order}
use Rattle.run.specs.Run.{Entry, Carried, Item, frame, mark, Exit, State, with_switch, with_queue, with_entry, turned, entry, entered, arrived, fall, ordered}
use Rattle.run.specs.Promise.{Left, Coming, Missed}
use Rattle.run.proofs.Inv.{Inv}
use Rattle.run.proofs.Lists.{by_test, never, at2_case, at_self, snoc_cases, snoc_old, snoc_last, mem_drop}
use Rattle.run.proofs.Keeps.{keeps_drop, keeps_entry}
use Rattle.run.proofs.Moves.{Adds, moves_add, adds_queue, adds_exits, added_queue, added_exits, mem_items, mem_leaving}
use Rattle.run.proofs.Frames.{Carries, mem_pass, meets_table, right_copies, new_carries, off_carries}

-- that e's packet leaves at k as o is done, under way or lost
abbrev pub Due : Net → (ℕ → Plan) → State → Entry → ℕ → Packet → Type 0
Due w a s e k o = Left s.exits e k o ⊎ (Coming w s.queue (a e.version).text e k o ⊎ Missed w s.fallen (a e.version).text e k o)

abbrev pub All : Net → (ℕ → Plan) → State → Type 0
All w a s = (e : Entry) → Memᴰ e s.entries → (k : ℕ) (o : Packet) → Goes w (a e.version).text w.hops e.from e.first k o → Due w a s e k o

due_more : (w : Net) (a : ℕ → Plan) {i : ℕ} {on : ℕ → List Item} {said : List Answer} {out : List Exit} {s t : State} → Adds i on said out s t → (e : Entry) (k : ℕ) (o : Packet) → Due w a s e k o → Due w a t e k o
due_more w a {t = t} d e k o (inl x) = inl (adds_exits d _ x)
due_more w a {t = t} d e k o (inr (inl x)) = inr (inl (record { j = x.j; q = x.q; i = x.i; p = x.p; cable = x.cable; c = x.c; there = adds_queue d x.j x.q _ x.there; mine = x.mine; goes = x.goes }))
due_more w a {t = t} d e k o (inr (inr x)) = inr (inr (record { f = x.f; there = subst (Memᴰ x.f) (sym d.fallen) x.there; mine = x.mine; goes = x.goes }))

-- what a packet at switch i does next
pub record Onto (w : Net) (b : ℕ → Policy) (h i : ℕ) (p : Packet) (k : ℕ) (o : Packet) : Type 0 where
  pub less : ℕ
  pub hops : h ≡ suc less
  pub c : Packet
  pub copy : Memᴰ c (copies (b i) p)
  pub j : ℕ
  pub q : ℕ
  pub cable : Cable w i (field 0 c) j q
  pub goes : Goes w b less j (put 0 q c) k o

goes_cases : (w : Net) (b : ℕ → Policy) {h i k : ℕ} {p o : Packet} → Goes w b h i p k o → ((k ≡ i) × Memᴰ o (copies (b i) p) × (w.wire i (field 0 o) ≡ Outside)) ⊎ Onto w b h i p k o
goes_cases w b (out m e) = inl (refl, m, e)
goes_cases w b (on {h = h} c m j q e g) = inr (record { less = h; hops = refl; c = c; copy = m; j = j; q = q; cable = e; goes = g })

module _ (w : Net) (good : GoodNet w) (a : ℕ → Plan) where
  -- a switch passes on each copy that its text gives
  module _ (s : State) (v : Inv w a s) (i : ℕ) (c : Carried) (y : Carries w a s i c) where
    abbrev sends : List Message
    sends = (take_frame (w.wire i) c.frame (s.switch i)).sends

    abbrev after : State
    after = turned i (Some c.entry) (take_frame (w.wire i) c.frame (s.switch i)) s

    passed : (o : Packet) → Memᴰ o (copies ((a c.frame.version).text i) c.frame.packet) → (m : Message) → Memᴰ m (pass_on c.frame o (w.wire i (field 0 o))) → Memᴰ m sends
    passed o m k z = by_test (λ (ms : List Message). Memᴰ k ms) (knows c.frame.version (s.switch i).held)
        (λ _. mem_pass (w.wire i) c.frame _ o ((right_copies w good a s v i c y o).1 m) k z)
        (λ t. absurd (T_not (knows c.frame.version (s.switch i).held) t (meets_table w good a s v i y.here c.frame y.timely).0))

    pub left_out : (o : Packet) → Memᴰ o (copies ((a c.frame.version).text i) c.frame.packet) → w.wire i (field 0 o) ≡ Outside → Memᴰ (record { entry = c.entry; at = i; last = o }) after.exits
    left_out o m e = added_exits (moves_add i (Some c.entry) sends (with_switch i (s.switch i) s)) _
        (mem_leaving i (Some c.entry) sends (Leave o) (passed o m (Leave o) (subst (λ (x : Wire). Memᴰ (Leave o) (pass_on c.frame o x)) (sym e) (Memᴰ.head refl))) _ (Memᴰ.head refl))

    pub gone_on : (o : Packet) → Memᴰ o (copies ((a c.frame.version).text i) c.frame.packet) → (j q : ℕ) → Cable w i (field 0 o) j q → (c.frame.hops ≡ 0 → ⊥) →
        Memᴰ (frame (record { frame = onward c.frame q o; entry = c.entry })) (after.queue i (field 0 o))
    gone_on o m j q e n = added_queue (moves_add i (Some c.entry) sends (with_switch i (s.switch i) s)) (field 0 o) _
        (mem_items (Some c.entry) (field 0 o) sends (FrameOn (field 0 o) (onward c.frame q o)) (passed o m (FrameOn (field 0 o) (onward c.frame q o))
        (subst (λ (x : Wire). Memᴰ (FrameOn (field 0 o) (onward c.frame q o)) (pass_on c.frame o x)) (sym e)
        (by_test (λ (ms : List Message). Memᴰ (FrameOn (field 0 o) (onward c.frame q o)) ms) (eqb c.frame.hops 0) (λ t. absurd (n (eqb→eq c.frame.hops 0 t))) (λ _. Memᴰ.head refl)))) _
        (at_self (Memᴰ (frame (record { frame = onward c.frame q o; entry = c.entry }))) (field 0 o) _ [] (Memᴰ.head refl)))

    -- all that the frame was to do is done or under way
    worked : (k : ℕ) (o : Packet) → Goes w (a c.frame.version).text c.frame.hops i c.frame.packet k o → Due w a after c.entry k o
    worked k o g = go (goes_cases w (a c.frame.version).text g)
      where
        go : ((k ≡ i) × Memᴰ o (copies ((a c.frame.version).text i) c.frame.packet) × (w.wire i (field 0 o) ≡ Outside)) ⊎ Onto w (a c.frame.version).text c.frame.hops i c.frame.packet k o → Due w a after c.entry k o
        go (inl z) = inl (Memᴰ.cast (let f = z.0 in cc) (left_out o z.1 z.2))
        go (inr z) = inr (inl (record {
          j = i;
          q = field 0 z.c;
          i = z.j;
          p = z.q;
          cable = z.cable;
          c = record { frame = onward c.frame z.q z.c; entry = c.entry };
          mine = refl;
          there = gone_on z.c z.copy z.j z.q z.cable (let e = z.hops in λ f. omega arith);
          goes = subst (λ (n : ℕ). Goes w (a n).text (pred c.frame.hops) z.j (put 0 z.q z.c) k o) y.way.mine
              (subst (λ (n : ℕ). Goes w (a c.frame.version).text (pred n) z.j (put 0 z.q z.c) k o) (sym z.hops) z.goes);
        }))

    -- so if the rest was accounted for, all is
    all_worked : ((e : Entry) → Memᴰ e s.entries → (k : ℕ) (o : Packet) → Goes w (a e.version).text w.hops e.from e.first k o →
        Due w a s e k o ⊎ ((c.entry ≡ e) × Goes w (a c.frame.version).text c.frame.hops i c.frame.packet k o)) → All w a after
    all_worked b e m k o g = let d = moves_add i (Some c.entry) sends (with_switch i (s.switch i) s) in
        ⊎_elim (λ z. due_more w a d e k o z) (λ z. subst (λ (x : Entry). Due w a after x k o) z.0 (worked k o z.1)) (b e (subst (Memᴰ e) d.entries m) k o g)

  pub all_enter : (s : State) → Inv w a s → All w a s → (i : ℕ) → i < w.switches → (p : Packet) → IsPacket p → All w a (entered w i p s)
  all_enter s v b i l p n = all_worked (with_entry (entry s i p) s) (keeps_entry w a s v (entry s i p)) i (record { frame = fresh w.hops p (s.switch i); entry = entry s i p }) (new_carries w good a s v i l p n)
      (λ e m k o g. ⊎_elim (λ z. inl (b e z k o g)) (λ z. inr (sym z, subst (λ (x : Entry). Goes w (a x.version).text w.hops x.from x.first k o) z g)) (snoc_cases s.entries m))

  -- an item leaves a cable
  taken : (s : State) → All w a s → (j q i p : ℕ) → Cable w j q i p → (x : Item) (front rest : List Item) → s.queue j q ≡ front ++ (x ∷ rest) →
      (e : Entry) → Memᴰ e s.entries → (k : ℕ) (o : Packet) → Goes w (a e.version).text w.hops e.from e.first k o →
      Due w a (with_queue j q (front ++ rest) s) e k o ⊎ ((c : Carried) × (frame c ≡ x) × (c.entry ≡ e) × Goes w (a e.version).text c.frame.hops i c.frame.packet k o)
  taken s b j q i p y x front rest f e m k o g = go (b e m k o g)
    where
      Taken : Type 0
      Taken = Due w a (with_queue j q (front ++ rest) s) e k o ⊎ ((c : Carried) × (frame c ≡ x) × (c.entry ≡ e) × Goes w (a e.version).text c.frame.hops i c.frame.packet k o)

      fin : (z : Coming w s.queue (a e.version).text e k o) → Memᴰ (frame z.c) ((with_queue j q (front ++ rest) s).queue z.j z.q) ⊎ ((frame z.c ≡ x) × (z.i ≡ i)) → Taken
      fin z (inl u) = inl (inr (inl (record { j = z.j; q = z.q; i = z.i; p = z.p; cable = z.cable; c = z.c; there = u; mine = z.mine; goes = z.goes })))
      fin z (inr u) = inr (z.c, u.0, z.mine, subst (λ (n : ℕ). Goes w (a e.version).text z.c.frame.hops n z.c.frame.packet k o) u.1 z.goes)

      go : Due w a s e k o → Taken
      go (inl z) = inl (inl z)
      go (inr (inr z)) = inl (inr (inr z))
      go (inr (inl z)) = fin z (at2_case
          (λ j' q' xs. Cable w j' q' z.i z.p → Memᴰ (frame z.c) (s.queue j' q') → Memᴰ (frame z.c) xs ⊎ ((frame z.c ≡ x) × (z.i ≡ i))) j q {a = front ++ rest} {f = s.queue}
          (λ h n. ⊎_elim (λ u. inr (u, cc)) inl (mem_drop x (frame z.c) front rest (subst (Memᴰ (frame z.c)) f n)))
          (λ j' q' h n. inl n) z.j z.q z.cable z.there)

  pub all_arrive : (s : State) → Inv w a s → All w a s → (j q i p : ℕ) → Cable w j q i p → (c : Carried) (rest : List Item) → s.queue j q ≡ frame c ∷ rest → All w a (arrived w i p (frame c) (with_queue j q rest s))
  all_arrive s v b j q i p y c rest f = all_worked (with_queue j q rest s) (keeps_drop w a s v j q (frame c) [] rest f) i c (off_carries w good a s v j q i p y c rest f)
      (λ e m k o g. ⊎_elim inl (λ z. inr (same z.0 z.1 ∙ z.2, turn e k o z.0 z.1 z.2 z.3)) (taken s b j q i p y (frame c) [] rest f e m k o g))
    where
      same : (b : Carried) → frame b ≡ frame c → c.entry ≡ b.entry
      same b p = let n : b ≡ c = cc in ap (λ (x : Carried). x.entry) (sym n)

      turn : (e : Entry) (k : ℕ) (o : Packet) (b : Carried) → frame b ≡ frame c → b.entry ≡ e → Goes w (a e.version).text b.frame.hops i b.frame.packet k o → Goes w (a c.frame.version).text c.frame.hops i c.frame.packet k o
      turn e k o b u z g = let n : b ≡ c = cc in
          let ve : e.version ≡ c.frame.version = ap (λ (x : Entry). x.version) (sym (same b u ∙ z)) ∙ sym (off_carries w good a s v j q i p y c rest f).way.mine in
          subst (λ (n : ℕ). Goes w (a n).text c.frame.hops i c.frame.packet k o) ve (subst (λ (x : Carried). Goes w (a e.version).text x.frame.hops i x.frame.packet k o) n g)

  no_frame_lem : (c : Carried) (k : Mark) → frame c ≡ mark k → ⊥
  no_frame_lem c k p = never (cc)

  pub all_mark : (s : State) → All w a s → (j q i p : ℕ) → Cable w j q i p → (k : Mark) (rest : List Item) → s.queue j q ≡ mark k ∷ rest → All w a (arrived w i p (mark k) (with_queue j q rest s))
  all_mark s b j q i p y n rest f e m k o g = let d = moves_add i None [] (with_switch i (take_mark p n (s.switch i)).after (with_queue j q rest s)) in
      due_more w a d e k o (⊎_elim (λ z. z) (λ z. absurd (no_frame_lem z.0 n z.1)) (taken s b j q i p y (mark n) [] rest f e (subst (Memᴰ e) d.entries m) k o g))

  pub all_lose : (s : State) → All w a s → (j q i p : ℕ) → Cable w j q i p → (x : Item) (front rest : List Item) → s.queue j q ≡ front ++ (x ∷ rest) → All w a (fall i x (with_queue j q (front ++ rest) s))
  all_lose s b j q i p y (mark n) front rest f e m k o g = ⊎_elim (λ z. z) (λ z. absurd (no_frame_lem z.0 n z.1)) (taken s b j q i p y (mark n) front rest f e m k o g)
  all_lose s b j q i p y (frame c) front rest f e m k o g = ⊎_elim more (λ z. inr (inr (miss z.0 z.1 z.2 z.3))) (taken s b j q i p y (frame c) front rest f e m k o g)
    where
      more : Due w a (with_queue j q (front ++ rest) s) e k o → Due w a (fall i (frame c) (with_queue j q (front ++ rest) s)) e k o
      more (inl z) = inl z
      more (inr (inl z)) = inr (inl z)
      more (inr (inr z)) = inr (inr (record { f = z.f; there = snoc_old s.fallen _ z.there; mine = z.mine; goes = z.goes }))

      miss : (b : Carried) → frame b ≡ frame c → b.entry ≡ e → Goes w (a e.version).text b.frame.hops i b.frame.packet k o → Missed w (s.fallen ++ (record { to = i; what = c } ∷ [])) (a e.version).text e k o
      miss b p z g = let n : b ≡ c = cc in record { f = record { to = i; what = b }; there = Memᴰ.cast (ap (λ (x : Carried). record { to = i; what = x }) n) (snoc_last s.fallen (record { to = i; what = c })); mine = z; goes = g }

  pub all_order : (s : State) → All w a s → (i : ℕ) (o : Order) → All w a (ordered w i o s)
  all_order s b i n e m k o g = let t = take_order w.ports (w.wire i) n (s.switch i) in let d = moves_add i None t.sends (with_switch i t.after s) in due_more w a d e k o (b e (subst (Memᴰ e) d.entries m) k o g)
