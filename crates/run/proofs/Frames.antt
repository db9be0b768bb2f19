-- A switch works on a frame by the table of its version, and what it sends keeps the invariant.
use Rattle.std.proofs.Common.{◌≡◌, ℕ, suc, pred, ◌<◌, ◌≤◌, not, T, eqb, List, [], ◌∷◌, Some, sym, refl, ap, subst, inl, inr, ⊎_elim, le_refl, arith}
use mathlib.Core.List.Memᴰ
use mathlib.Core.List.{Memᴰ}
use native.Mathlib.Nat.{suc-pred-eq_of_ne-zero}
use Rattle.packet.specs.Packet.{Packet, IsPacket, field}
use Rattle.packet.specs.Policy.{copies}
use Rattle.packet.specs.Table.{Table, sent}
use Rattle.run.specs.Net.{Net, Plan, GoodNet, Cable, Wire, Outside, To, Nothing, Goes, out, on}
use Rattle.run.specs.Switch.{Frame, Switch, Message, knows, table_of, fresh, onward, pass_on, pass_all, take_frame}
use Rattle.run.specs.Run.{Carried, Item, frame, State, with_switch, with_queue, with_entry, turned, entry, entered, arrived}
use Rattle.run.proofs.Inv.{time_of, Timely, Way, Rides, Sound, Inv}
use Rattle.run.proofs.Lists.{by_test, neqb, at_self, snoc_last}
use Rattle.run.proofs.Packets.{put_packet, copy_packet}
use Rattle.run.proofs.Cables.{Last, line_has}
use Rattle.run.proofs.Switches.{grows_refl, meets}
use Rattle.run.proofs.Keeps.{spans, keeps_switch, keeps_drop, keeps_entry}
use Rattle.run.proofs.Moves.{Ok, moves_keep}

-- a copy that is passed on, and where
pub pass_mem : (wire : ℕ → Wire) (f : Frame) (os : List Packet) (m : Message) → Memᴰ m (pass_all wire f os) → (o : Packet) × Memᴰ o os × Memᴰ m (pass_on f o (wire (field 0 o)))
unfolding pass_all
pass_mem wire f [] m z = elim z [ ]
pass_mem wire f (o ∷ os) m z = ⊎_elim (λ y. (o, Memᴰ.head refl, y)) (λ y. let r = pass_mem wire f os m y in (r.0, Memᴰ.tail r.1, r.2)) (Memᴰ.append_cases (pass_on f o (wire (field 0 o))) z)

pub mem_pass : (wire : ℕ → Wire) (f : Frame) (os : List Packet) (o : Packet) → Memᴰ o os → (m : Message) → Memᴰ m (pass_on f o (wire (field 0 o))) → Memᴰ m (pass_all wire f os)
unfolding pass_all
mem_pass wire f [] o z m y = elim z [ ]
mem_pass wire f (p ∷ os) o z m y = ⊎_elim
    (λ e. Memᴰ.append_left (pass_all wire f os) (subst (λ (x : Packet). Memᴰ m (pass_on f x (wire (field 0 x)))) e y))
    (λ k. Memᴰ.append_right (pass_on f p (wire (field 0 p))) (mem_pass wire f os o k m y))
    (Memᴰ.cases_cons z)

-- a frame in hand at switch i
pub record Carries (w : Net) (a : ℕ → Plan) (s : State) (i : ℕ) (c : Carried) : Type 0 where
  pub here : i < w.switches
  pub way : Way w a i c
  pub timely : Timely w.hops (time_of w s) c.frame
  pub logged : Memᴰ c.entry s.entries

module _ (w : Net) (good : GoodNet w) (a : ℕ → Plan) where
  -- it meets its table
  pub meets_table : (s : State) → Inv w a s → (i : ℕ) → i < w.switches → (f : Frame) → Timely w.hops (time_of w s) f → T (knows f.version (s.switch i).held) × (table_of f.version (s.switch i).held ≡ (a f.version).table i)
  meets_table s v i l f t = meets w.hops (time_of w s) a i f.version (s.switch i).held (s.switch i).floor f.hops (spans w s.desk s.desk.stage v.stage) t.which (v.switches i l).has

  -- its plan is one of those brought so far
  pub known : (s : State) → Inv w a s → (f : Frame) → Timely w.hops (time_of w s) f → f.version ≤ s.desk.to
  known s v f t = let n = spans w s.desk s.desk.stage v.stage in let y = t.which in omega arith

  -- the copies of its table are those of its text
  pub right_copies : (s : State) → Inv w a s → (i : ℕ) (c : Carried) → Carries w a s i c → (o : Packet) →
      (Memᴰ o (sent (table_of c.frame.version (s.switch i).held) c.frame.packet) → Memᴰ o (copies ((a c.frame.version).text i) c.frame.packet)) ×
      (Memᴰ o (copies ((a c.frame.version).text i) c.frame.packet) → Memᴰ o (sent (table_of c.frame.version (s.switch i).held) c.frame.packet))
  right_copies s v i c y o = let e = (meets_table s v i y.here c.frame y.timely).1 in
      let z = (v.good c.frame.version (known s v c.frame y.timely)).right i y.here c.frame.packet y.way.packet o in
      (λ m. z.0 (subst (λ (t : Table). Memᴰ o (sent t c.frame.packet)) e m), λ m. subst (λ (t : Table). Memᴰ o (sent t c.frame.packet)) (sym e) (z.1 m))

  -- a copy that leaves, and one that goes over a cable
  module _ (s : State) (v : Inv w a s) (i : ℕ) (c : Carried) (y : Carries w a s i c) (o : Packet) (m : Memᴰ o (copies ((a c.frame.version).text i) c.frame.packet)) where
    leaves_ok : w.wire i (field 0 o) ≡ Outside → Sound w a s.entries (record { entry = c.entry; at = i; last = o })
    leaves_ok e = record { logged = y.logged; leaves = subst (λ (n : ℕ). Goes w (a n).text w.hops c.entry.from c.entry.first i o) y.way.mine (y.way.goes i o (out m e)) }

    module _ (j q : ℕ) (e : Cable w i (field 0 o) j q) (n : T (not (eqb c.frame.hops 0))) where
      fewer : suc (pred c.frame.hops) ≡ c.frame.hops
      fewer = suc-pred-eq_of_ne-zero (neqb c.frame.hops 0 n)

      rides_on : Rides w a (time_of w s) j (record { frame = onward c.frame q o; entry = c.entry })
      rides_on = let z = fewer in let f = y.timely.few in record {
        way = record {
          mine = y.way.mine;
          packet = put_packet 0 q o (let l = (good.ends i (field 0 o) j q e).1 in let k = good.fits in omega arith)
              (copy_packet ((a c.frame.version).text i) ((v.good c.frame.version (known s v c.frame y.timely)).in_range i y.here) c.frame.packet y.way.packet o m);
          goes = λ k p g. y.way.goes k p (subst (λ (h : ℕ). Goes w (a c.frame.version).text h i c.frame.packet k p) z (on o m j q e g));
        };
        timely = record { which = ⊎_elim (λ g. inl (g.0, let b = g.1 in omega arith)) inr y.timely.which; few = omega arith };
        less = omega arith;
      }

      last_on : Last w (time_of w s) (frame (record { frame = onward c.frame q o; entry = c.entry }))
      last_on k p b z l = let g : b ≡ record { frame = onward c.frame q o; entry = c.entry } = cc in
          let n1 : b.frame.version ≡ c.frame.version = ap (λ (x : Carried). x.frame.version) g in
          let n2 : b.frame.hops ≡ pred c.frame.hops = ap (λ (x : Carried). x.frame.hops) g in
          let f = fewer in let t = y.timely.which in let r = spans w s.desk s.desk.stage v.stage in omega arith

    pub pass_ok : (x : Wire) → w.wire i (field 0 o) ≡ x → (k : Message) → Memᴰ k (pass_on c.frame o x) → Ok w a (time_of w s) s.entries i (s.switch i) (Some c.entry) k
    pass_ok Outside e k z = subst (Ok w a (time_of w s) s.entries i (s.switch i) (Some c.entry)) (sym (Memᴰ.eq_of_singleton z)) (leaves_ok e)
    pass_ok (To j q) e k z = by_test (λ (ms : List Message). Memᴰ k ms → Ok w a (time_of w s) s.entries i (s.switch i) (Some c.entry) k) (eqb c.frame.hops 0)
        (λ _ u. elim u [ ])
        (λ n u. subst (Ok w a (time_of w s) s.entries i (s.switch i) (Some c.entry)) (sym (Memᴰ.eq_of_singleton u)) (j, q, e, rides_on j q e n, last_on j q e n, y.logged))
        z
    pass_ok Nothing e k z = elim z [ ]

  -- a frame in hand is worked on
  pub keeps_frame : (s : State) → Inv w a s → (i : ℕ) (c : Carried) → Carries w a s i c → Inv w a (turned i (Some c.entry) (take_frame (w.wire i) c.frame (s.switch i)) s)
  keeps_frame s v i c y = moves_keep w a i (Some c.entry) (take_frame (w.wire i) c.frame (s.switch i)).sends (with_switch i (s.switch i) s)
      (λ k z. at_self (λ (x : Switch). Ok w a (time_of w s) s.entries i x (Some c.entry) k) i (s.switch i) (s.switch i) (ok k z))
      (keeps_switch w a s v i (s.switch i) (v.switches i) (grows_refl (s.switch i)) (v.cables i))
    where
      ok : (k : Message) → Memᴰ k (take_frame (w.wire i) c.frame (s.switch i)).sends → Ok w a (time_of w s) s.entries i (s.switch i) (Some c.entry) k
      ok k z = by_test (λ (ms : List Message). Memᴰ k ms → Ok w a (time_of w s) s.entries i (s.switch i) (Some c.entry) k) (knows c.frame.version (s.switch i).held)
          (λ _ u. let r = pass_mem (w.wire i) c.frame (sent (table_of c.frame.version (s.switch i).held) c.frame.packet) k u in
          pass_ok s v i c y r.0 ((right_copies s v i c y r.0).0 r.1) (w.wire i (field 0 r.0)) refl k r.2)
          (λ _ u. elim u [ ]) z

  -- a packet that comes in from outside
  pub new_carries : (s : State) → Inv w a s → (i : ℕ) → i < w.switches → (p : Packet) → IsPacket p → Carries w a (with_entry (entry s i p) s) i (record { frame = fresh w.hops p (s.switch i); entry = entry s i p })
  new_carries s v i l p n = record {
    here = l;
    way = record { mine = refl; goes = λ k o g. g; packet = n };
    timely = record { which = ⊎_elim (λ b. inl (b.0, let c = b.1 in omega arith)) inr (v.switches i l).stamps; few = le_refl w.hops };
    logged = snoc_last s.entries (entry s i p);
  }

  pub keeps_enter : (s : State) → Inv w a s → (i : ℕ) → i < w.switches → (p : Packet) → IsPacket p → Inv w a (entered w i p s)
  keeps_enter s v i l p n = keeps_frame (with_entry (entry s i p) s) (keeps_entry w a s v (entry s i p)) i (record { frame = fresh w.hops p (s.switch i); entry = entry s i p }) (new_carries s v i l p n)

  -- a frame on a cable
  pub rides : (s : State) → Inv w a s → (j q i p : ℕ) → Cable w j q i p → (c : Carried) → Memᴰ (frame c) (s.queue j q) → Rides w a (time_of w s) i c
  rides s v j q i p e c m = line_has w a (time_of w s) i (s.queue j q) (frame c) (v.cables i j q p e).2 m

  pub off_carries : (s : State) → Inv w a s → (j q i p : ℕ) → Cable w j q i p → (c : Carried) (rest : List Item) → s.queue j q ≡ frame c ∷ rest → Carries w a (with_queue j q rest s) i c
  off_carries s v j q i p e c rest f = let m = subst (Memᴰ (frame c)) (sym f) (Memᴰ.head refl) in let r = rides s v j q i p e c m in
      record { here = (good.ends j q i p e).0; way = r.way; timely = r.timely; logged = (v.wired j q (frame c) m).3 }

  pub keeps_arrive : (s : State) → Inv w a s → (j q i p : ℕ) → Cable w j q i p → (c : Carried) (rest : List Item) → s.queue j q ≡ frame c ∷ rest → Inv w a (arrived w i p (frame c) (with_queue j q rest s))
  keeps_arrive s v j q i p e c rest f = keeps_frame (with_queue j q rest s) (keeps_drop w a s v j q (frame c) [] rest f) i c (off_carries s v j q i p e c rest f)
