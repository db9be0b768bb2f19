-- Which switches may still have a text, and what a line makes of the texts so far.
use Rattle.std.proofs.Common.{◌≡◌, ℕ, ◌<◌, ◌≤◌, Bool, true, false, cond, not, ◌&&◌, ltb, List, map, length, get_or, is_some, Some, None, Ok, Err, Option, Result, sym, refl, ap, ◌∙◌, arith}
use Rattle.std.proofs.lemmas.List.{length-map, get_or-map}
use Rattle.std.proofs.lemmas.Bool.{and_parts, ltb-true, lt-ltb, le-ltb, eq-eqb, ne_eqb}
use Rattle.octets.specs.declared.fault.Fault.{Fault}
use Rattle.octets.specs.declared.fault.Fault.TheVariants.{Range}
use Rattle.octets.specs.Parse.{Got, Read, Bad, and_then, check}
use Rattle.text.specs.declared.node.Node.{Node}
use Rattle.text.specs.Trees.{meaning}
use Rattle.prescribed.specs.Fit.{fault_of}
use Rattle.plan.specs.declared.part.Part.{Part}
use Rattle.plan.specs.Slots.{Slots, free, placed, fitted, line}
use Rattle.plan.specs.Views.{slot_of}

slot_there : (x : Option Part) → is_some (slot_of x) ≡ is_some x
slot_there None = refl
slot_there (Some p) = refl

module _ (ps : List (Option Part)) (i : ℕ) where
  pub free_there : (x : Option Part) → i < length ps → x ≡ get_or ps i x → free (map slot_of ps) i ≡ not (is_some x)
  free_there x lt is =
      let long : ltb i (length (map slot_of ps)) ≡ true = lt-ltb _ _ (omega (arith, length-map ps slot_of)) in
      let item : is_some (get_or (map slot_of ps) i None) ≡ is_some x = ap is_some (get_or-map slot_of ps i x None lt ∙ ap slot_of (sym is)) ∙ slot_there x in
      ap (λ b. b && not (is_some (get_or (map slot_of ps) i None))) long ∙ ap not item

  pub free_past : length ps ≤ i → free (map slot_of ps) i ≡ false
  free_past le = ap (λ b. b && not (is_some (get_or (map slot_of ps) i None))) (le-ltb _ _ (omega (arith, length-map ps slot_of)))

  pub free_below : free (map slot_of ps) i ≡ true → i < length ps
  free_below h = let lt = ltb-true i (length (map slot_of ps)) (and_parts _ _ h).0 in omega (arith, length-map ps slot_of)

-- a claim was granted
pub granted : (b : Bool) → ◌≡◌ {A = Result (Unit {0}) Fault} (Ok tt) (cond b (Ok tt) (Err Range)) → b ≡ true
granted true e = refl
granted false e = absurd (let z : ◌≡◌ {A = ℕ} 0 1 = cc in omega arith)

module _ (slots : Slots) (i : ℕ) (nodes : List ℕ → Got (List Node)) (bs : List ℕ) where
  pub line_taken : free slots i ≡ false → line slots i nodes bs ≡ Bad 2
  line_taken h = ap (λ b. and_then (check b 2 i bs) (λ j r. and_then (nodes r) (λ ns q. and_then (fitted ns q) (λ ms p. Read (placed j ms slots) p)))) h

  opened : free slots i ≡ true → line slots i nodes bs ≡ and_then (nodes bs) (λ ns q. and_then (fitted ns q) (λ ms p. Read (placed i ms slots) p))
  opened h = ap (λ b. and_then (check b 2 i bs) (λ j r. and_then (nodes r) (λ ns q. and_then (fitted ns q) (λ ms p. Read (placed j ms slots) p)))) h

  pub line_bad : (k : ℕ) → free slots i ≡ true → nodes bs ≡ Bad k → line slots i nodes bs ≡ Bad k
  line_bad k h e = opened h ∙ ap (λ g. and_then g (λ ns q. and_then (fitted ns q) (λ ms p. Read (placed i ms slots) p))) e

  -- a text that was read and put is the line, whatever reads its nodes
  pub line_put : (ns : List Node) (q : List ℕ) → free slots i ≡ true → nodes bs ≡ Read ns q →
      line slots i nodes bs ≡ and_then (fitted ns q) (λ ms p. Read (placed i ms slots) p)
  line_put ns q h e = opened h ∙ ap (λ g. and_then g (λ ms r. and_then (fitted ms r) (λ os p. Read (placed i os slots) p))) e

pub fits_put : (slots : Slots) (i : ℕ) (ns : List Node) (q : List ℕ) → fault_of (meaning ns) ≡ 0 →
    and_then (fitted ns q) (λ ms p. Read (placed i ms slots) p) ≡ Read (placed i ns slots) q
fits_put slots i ns q fit = ap (λ b. and_then (cond b (Read ns q) (Bad (fault_of (meaning ns)))) (λ ms p. Read (placed i ms slots) p)) (eq-eqb (fault_of (meaning ns)) 0 fit)

pub unfit_put : (slots : Slots) (i : ℕ) (ns : List Node) (q : List ℕ) → 0 < fault_of (meaning ns) →
    and_then (fitted ns q) (λ ms p. Read (placed i ms slots) p) ≡ Bad (fault_of (meaning ns))
unfit_put slots i ns q fault = ap (λ b. and_then (cond b (Read ns q) (Bad (fault_of (meaning ns)))) (λ ms p. Read (placed i ms slots) p)) (ne_eqb (fault_of (meaning ns)) 0 (λ e. omega arith))
