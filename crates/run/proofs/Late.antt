-- An install of the desk's old version or of an earlier one is ignored, so it makes no difference which table it carries.
use Rattle.std.proofs.Common.{◌≡◌, ℕ, ◌<◌, ◌≤◌, Bool, true, false, cond, not, ◌&&◌, T, leb, [], ◌∷◌, ◌++◌, sym, refl, ap, ◌∙◌, subst, inl, arith, leb→le, T_not}
use Rattle.packet.specs.Table.{Table}
use Rattle.run.specs.Net.{Net, GoodNet, Wire}
use Rattle.run.specs.Order.{Install, Installed}
use Rattle.run.specs.Switch.{Switch, Turn, Reply, knows, with_held, install, take_order}
use Rattle.run.specs.Run.{State, Reach}
use Rattle.run.proofs.Inv.{time_of, Has, old, both, new, Inv}
use Rattle.run.proofs.Lists.{and_l, and_r}
use Rattle.run.proofs.Whole.{now}
use Rattle.run.proofs.Keeps.{spans}

false_if : (b : Bool) → (T b → ⊥) → b ≡ false
false_if true n = absurd (n tt)
false_if false n = refl

pub ignored : (w : Net) → GoodNet w → (s : State) → Reach w s → (i : ℕ) → i < w.switches → (v : ℕ) → v ≤ s.desk.from → (leb (s.switch i).floor v && not (knows v (s.switch i).held)) ≡ false
ignored w good s r i l v k = false_if (leb (s.switch i).floor v && not (knows v (s.switch i).held))
    (λ b. go (leb→le (s.switch i).floor v (and_l (leb (s.switch i).floor v) (not (knows v (s.switch i).held)) b)) (and_r (leb (s.switch i).floor v) (not (knows v (s.switch i).held)) b) (inv.switches i l).has)
  where
    inv : Inv w s.plans s
    inv = (now w good r).0

    known : (s.switch i).floor ≤ v → T (not (knows v (s.switch i).held)) → (s.switch i).floor ≡ s.desk.from → T (knows s.desk.from (s.switch i).held) → ⊥
    known a b f t = let e : s.desk.from ≡ v = omega arith in T_not (knows v (s.switch i).held) b (subst (λ (n : ℕ). T (knows n (s.switch i).held)) e t)

    go : (s.switch i).floor ≤ v → T (not (knows v (s.switch i).held)) → Has w.hops (time_of w s) s.plans i (s.switch i).held (s.switch i).floor → ⊥
    go a b (old z f n) = known a b f (z.all s.desk.from refl)
    go a b (both z f n) = known a b f (z.all s.desk.from (inl refl))
    go a b (new z f n) = let x = spans w s.desk s.desk.stage inv.stage in omega arith

pub same_turn : (n : ℕ) (wire : ℕ → Wire) (v : ℕ) (t u : Table) (x : Switch) → (leb x.floor v && not (knows v x.held)) ≡ false → take_order n wire (Install v t) x ≡ take_order n wire (Install v u) x
same_turn n wire v t u x e = ap turn (none t ∙ sym (none u))
  where
    turn : Switch → Turn
    turn y = record { after = y; sends = cond (knows v y.held) (Reply (Installed v) ∷ []) [] }

    none : (t : Table) → install v t x ≡ x
    none t = subst (λ (b : Bool). cond b (with_held (x.held ++ (record { version = v; table = t } ∷ [])) x) x ≡ x) (sym e) refl
