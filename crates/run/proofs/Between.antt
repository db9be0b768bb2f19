-- What holds while a change is under way.
use Rattle.std.proofs.Common.{◌≡◌, ℕ, ◌+◌, ◌≤◌, T, ◌⊎◌, subst, inl, inr, arith}
use mathlib.Core.List.{Memᴰ}
use Rattle.run.specs.Switch.{knows}
use Rattle.run.specs.Desk.{Stage, Flushing, Removing}
use Rattle.run.specs.Run.{Carried, frame}
use Rattle.run.specs.OnTheWay.{OnTheWay}
use Rattle.run.proofs.Inv.{time_at, time_of, Has, old, both, new, StageOk, InvAt, Inv}
use Rattle.run.proofs.Frames.{rides}
use Rattle.run.proofs.Whole.{now}

pub on_the_way : OnTheWay
on_the_way w good s r = record {
  only = λ i l v t. versions i v t (inv.switches i l).has;
  flushing = λ r e j q c m z. let y = fits (Flushing (r + 1)) e j q c m in let o = (stage (Flushing (r + 1)) e).0 in omega arith;
  removing = λ e j q c m z. let y = fits Removing e j q c m in let o = stage Removing e in omega arith;
}
  where
    inv : Inv w s.plans s
    inv = (now w good r).0

    versions : (i v : ℕ) → T (knows v (s.switch i).held) → Has w.hops (time_of w s) s.plans i (s.switch i).held (s.switch i).floor → (v ≡ s.desk.from) ⊎ (v ≡ s.desk.to)
    versions i v t (old z f b) = inl (z.only v t)
    versions i v t (both z f b) = z.only v t
    versions i v t (new z f b) = inr (z.only v t)

    stage : (g : Stage) → s.desk.stage ≡ g → StageOk w.hops s.desk.from s.desk.to g
    stage g e = (subst (InvAt w s.plans s) e inv).stage

    -- a frame on a cable, in stage g
    fits : (g : Stage) → s.desk.stage ≡ g → (j q : ℕ) (c : Carried) → Memᴰ (frame c) (s.queue j q) →
        ((c.frame.version ≡ s.desk.from) × (c.frame.hops + (time_at w s.desk g).rank ≤ w.hops + 2)) ⊎ ((c.frame.version ≡ s.desk.to) × (2 ≤ (time_at w s.desk g).rank))
    fits g e j q c m = let z = inv.wired j q (frame c) m in subst (λ (g : Stage). ((c.frame.version ≡ s.desk.from) × (c.frame.hops + (time_at w s.desk g).rank ≤ w.hops + 2)) ⊎ ((c.frame.version ≡ s.desk.to) × (2 ≤ (time_at w s.desk g).rank))) e
        (rides w good s.plans s inv j q z.0 z.1 z.2 c m).timely.which
