-- Without losses all that plans say leaves at some time.
use Rattle.std.proofs.Common.{◌≡◌, ℕ, suc, pred, ◌≤◌, [], sym, refl, ap, ◌∙◌, subst, inl, inr, le_trans, le_refl, arith}
use mathlib.Core.List.Memᴰ
use mathlib.Core.List.{Memᴰ}
use Rattle.packet.specs.Packet.{Packet, field}
use Rattle.packet.specs.Policy.{Policy, copies}
use Rattle.run.specs.Net.{Net, Plan, GoodNet, Cable, Goes, out, on}
use Rattle.run.specs.Switch.{onward}
use Rattle.run.specs.Run.{Entry, Carried, frame, State, with_queue}
use Rattle.run.specs.Promise.{Left}
use Rattle.run.specs.Live.{Sometime, Flows, AllLeave}
use Rattle.run.proofs.Inv.{Inv}
use Rattle.run.proofs.Keeps.{keeps_drop}
use Rattle.run.proofs.Frames.{off_carries, rides}
use Rattle.run.proofs.Copies.{Due, left_out, gone_on}
use Rattle.run.proofs.Steps.{Stays, stayed}
use Rattle.run.proofs.Whole.{now, came}
use Rattle.run.proofs.Live.{reach, between}

module _ (w : Net) (good : GoodNet w) (run : ℕ → State) (flows : Flows w run) where
  inv : (n : ℕ) → Inv w (run n).plans (run n)
  inv n = (now w good (reach w run flows.runs n)).0

  stays_on : (n m : ℕ) → n ≤ m → Stays (run n) (run m)
  stays_on n m l = stayed w (between w run flows.runs n m l)

  -- a frame on a cable whose text says that it leaves
  leave_on : {b : ℕ → Policy} {h i k : ℕ} {p o : Packet} → Goes w b h i p k o → (n j q r : ℕ) → Cable w j q i r → (c : Carried) → Memᴰ (frame c) ((run n).queue j q) →
      b ≡ ((run n).plans c.frame.version).text → c.frame.version ≤ (run n).desk.to → h ≡ c.frame.hops → p ≡ c.frame.packet →
      Sometime n (λ m. Left (run m).exits c.entry k o)
  leave_on {i = i} {p = p} {o = o} (out m e) n j q r y c there b kn eh ep =
      let z = flows.arrives n j q i r y c there in let l = z.1 in let s = run z.0 in (
        suc z.0,
        le_trans l (omega arith),
        subst (λ (t : State). Left t.exits c.entry i o) (sym z.2.2)
            (left_out w good s.plans (with_queue j q z.2.0 s) (keeps_drop w s.plans s (inv z.0) j q (frame c) [] z.2.0 z.2.1) i c (off_carries w good s.plans s (inv z.0) j q i r y c z.2.0 z.2.1) o
            (subst (λ (x : Packet). Memᴰ o (copies ((s.plans c.frame.version).text i) x)) ep
            (subst (λ (x : ℕ → Policy). Memᴰ o (copies (x i) p)) (b ∙ ap (λ (x : Plan). x.text) ((stays_on n z.0 l).plans c.frame.version kn)) m)) e),
      )
  leave_on {h = suc h} {i = i} {p = p} (on d m j' q' e g) n j q r y c there b kn eh ep =
      let z = flows.arrives n j q i r y c there in let l = z.1 in let s = run z.0 in
      let st = stays_on n (suc z.0) (le_trans l (omega arith)) in
      let x = leave_on g (suc z.0) i (field 0 d) q' e (record { frame = onward c.frame q' d; entry = c.entry })
      (subst (λ (t : State). Memᴰ (frame (record { frame = onward c.frame q' d; entry = c.entry })) (t.queue i (field 0 d))) (sym z.2.2)
      (gone_on w good s.plans (with_queue j q z.2.0 s) (keeps_drop w s.plans s (inv z.0) j q (frame c) [] z.2.0 z.2.1) i c (off_carries w good s.plans s (inv z.0) j q i r y c z.2.0 z.2.1) d
      (subst (λ (x : Packet). Memᴰ d (copies ((s.plans c.frame.version).text i) x)) ep
      (subst (λ (x : ℕ → Policy). Memᴰ d (copies (x i) p)) (b ∙ ap (λ (x : Plan). x.text) ((stays_on n z.0 l).plans c.frame.version kn)) m)) j' q' e (λ f. omega arith)))
      (b ∙ ap (λ (x : Plan). x.text) (st.plans c.frame.version kn)) (le_trans kn st.to) (ap pred eh) refl in
      (x.0, le_trans l (le_trans (omega arith) x.1), x.2)

pub all_leave : AllLeave
all_leave w good run flows n none e m k o g = go ((now w good (reach w run flows.runs n)).1 e m k o g)
  where
    go : Due w (run n).plans (run n) e k o → Sometime n (λ m. Left (run m).exits e k o)
    go (inl x) = (n, le_refl n, x)
    go (inr (inr x)) = absurd (Memᴰ.not-nil (subst (Memᴰ x.f) none x.there))
    go (inr (inl x)) = let c = x.c in
        let mine : c.frame.version ≡ e.version = (rides w good (run n).plans (run n) (inv w good run flows n) x.j x.q x.i x.p x.cable c x.there).way.mine ∙ ap (λ (y : Entry). y.version) x.mine in
        let kn = (came w good (reach w run flows.runs n) e m).1 in
        let r = leave_on w good run flows x.goes n x.j x.q x.p x.cable c x.there (ap (λ (y : ℕ). ((run n).plans y).text) (sym mine)) (subst (λ (v : ℕ). v ≤ (run n).desk.to) (sym mine) kn) refl refl in
        (r.0, r.1, Memᴰ.cast (let f = x.mine in cc) r.2)
