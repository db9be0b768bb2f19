use Rattle.std.proofs.Common.{◌≡◌, ℕ, ◌+◌, ◌-◌, true, false, List, take, drop, refl, sym, ap, arith}
use Rattle.maker.proofs.Joining.{same_tables, joined_same, joined_both, joined_over}
use Rattle.maker.proofs.join.join.Goals as goal

-- the part of the slice that is compared
back : (y n : ℕ) (ws : List ℕ) → take ((y + n) - y) (drop y ws) ≡ take n (drop y ws)
back y n ws = let e : (y + n) - y ≡ n = omega arith in ap (λ k. take k (drop y ws)) e

pub returns-then-same_without : goal.returns-then-same_without
returns-then-same_without c = record {
  joined = λ s t first second more rest gs gt.
      let ws = c.args.out.now in
      let same = sym (same_tables c.args.f c.args.y.words c.args.n.words ws s t first second true _ _ c.if-same_without.ensures.value refl (back c.args.y.words c.args.n.words ws)) in
      (omega arith, joined_same c.args.f c.args.y.words c.args.n.words ws s t first second same c.requires.within _ _ c.copy_within.ensures.after rest c.requires.fewer gt);
}

pub returns-then-both-gt-MOST : goal.returns-then-both-gt-MOST
returns-then-both-gt-MOST c = record {
  joined = λ s t first second more rest gs gt.
      let ws = c.args.out.now in
      let other = sym (same_tables c.args.f c.args.y.words c.args.n.words ws s t first second false _ _ c.if-same_without.ensures.value refl (back c.args.y.words c.args.n.words ws)) in
      joined_over c.args.f c.args.y.words c.args.n.words ws s t first second other _ _ more rest c.if-both-gt-MOST.true;
}

pub returns : goal.returns
returns c = record {
  joined = λ s t first second more rest gs gt.
      let ws = c.args.out.now in
      let other = sym (same_tables c.args.f c.args.y.words c.args.n.words ws s t first second false _ _ c.if-same_without.ensures.value refl (back c.args.y.words c.args.n.words ws)) in
      (omega arith, joined_both c.args.f c.args.y.words c.args.n.words ws s t first second other _ _ more rest c.if-both-gt-MOST.false gs gt);
}
