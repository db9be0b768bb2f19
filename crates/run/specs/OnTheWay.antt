-- What holds while a change is under way.
use Rattle.std.specs.Prelude.{◌≡◌, ℕ, ◌+◌, ◌<◌, ◌≤◌, T, ◌⊎◌, ◌≢◌}
use mathlib.Core.List.{Memᴰ}
use Rattle.run.specs.Net.{Net, GoodNet}
use Rattle.run.specs.Switch.{knows}
use Rattle.run.specs.Desk.{Flushing, Removing}
use Rattle.run.specs.Run.{Carried, frame, State, Reach}

pub record Between (w : Net) (s : State) : Type 0 where
  -- no switch holds other versions than the desk's and the next
  pub only : (i : ℕ) → i < w.switches → (v : ℕ) → T (knows v (s.switch i).held) → (v ≡ s.desk.from) ⊎ (v ≡ s.desk.to)
  -- in flushing r + 1 each packet of the old version on a cable has at most hops - 1 - r hops left
  pub flushing : (r : ℕ) → s.desk.stage ≡ Flushing (r + 1) → (j q : ℕ) (c : Carried) → Memᴰ (frame c) (s.queue j q) → c.frame.version ≡ s.desk.from → c.frame.hops + 1 + r ≤ w.hops
  -- in removing none is on a cable
  pub removing : s.desk.stage ≡ Removing → (j q : ℕ) (c : Carried) → Memᴰ (frame c) (s.queue j q) → c.frame.version ≢ s.desk.from

abbrev pub OnTheWay : Type 0
OnTheWay = (w : Net) → GoodNet w → (s : State) → Reach w s → Between w s
