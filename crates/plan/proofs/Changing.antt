-- How reading the bytes of a change goes on from text to text.
use Rattle.std.proofs.Common.{◌≡◌, ℕ, zero, suc, ◌+◌, ◌-◌, ◌<◌, Bool, true, false, cond, eqb, ◌⊎◌, List, [], ◌∷◌, Ok, Err, Result, sym, refl, ap, ◌∙◌, subst, inl, inr, arith}
use Rattle.octets.specs.declared.fault.Fault.{Fault}
use Rattle.octets.specs.declared.fault.Fault.TheVariants.{Memory}
use Rattle.octets.specs.Faults.{number}
use Rattle.octets.specs.Parse.{Got, Read, Bad, and_then, byte}
use Rattle.text.specs.declared.node.Node.{Node}
use Rattle.text.specs.Trees.{meaning}
use Rattle.text.specs.Format.{listed}
use Rattle.prescribed.specs.Fit.{fault_of}
use Rattle.plan.specs.Slots.{Slots, free, placed, fitted, line}
use Rattle.plan.specs.Changes.{text, texts, at_end}
use Rattle.plan.specs.Views.{Says}
use Rattle.plan.proofs.Placing.{line_put}

apart : {X : Type 0} (x : X) (bs : List ℕ) (n : ℕ) → Read x bs ≡ Bad n → ⊥
apart x bs n e = let z : ◌≡◌ {A = ℕ} 0 1 = cc in omega arith

-- the same answer, whatever is left to read
moved : (slots : Slots) (i : ℕ) (ns : List Node) (q : List ℕ) (b : Bool) (f : ℕ) (after : Slots) (r : Result (Unit {0}) Fault) →
    Says (λ _. after) r [] (and_then (cond b (Read ns []) (Bad f)) (λ ms p. Read (placed i ms slots) p)) →
    Says (λ _. after) r q (and_then (cond b (Read ns q) (Bad f)) (λ ms p. Read (placed i ms slots) p))
moved slots i ns q true f after (Ok x) h = let same : after ≡ placed i ns slots = cc in ap (λ s. Read s q) same
moved slots i ns q true f after (Err e) (inl m) = inl m
moved slots i ns q true f after (Err e) (inr h) = absurd (apart _ _ _ (sym h))
moved slots i ns q false f after (Ok x) h = absurd (apart _ _ _ h)
moved slots i ns q false f after (Err e) h = h

-- the switch and the nodes were read, and the text was put
pub text_put : (slots after : Slots) (bs mid q : List ℕ) (i : ℕ) (ns : List Node) (r : Result (Unit {0}) Fault) →
    Read i mid ≡ byte bs → free slots i ≡ true → Read ns q ≡ listed mid →
    Says (λ _. after) r [] (line slots i (λ l. Read ns l) []) → Says (λ _. after) r q (text slots bs)
text_put slots after bs mid q i ns r first may nodes said =
    let here = line_put slots i (λ l. Read ns l) [] ns [] may refl in
    let there = line_put slots i listed mid ns q may (sym nodes) in
    let is : text slots bs ≡ and_then (fitted ns q) (λ ms p. Read (placed i ms slots) p) = ap (λ g. and_then g (λ j l. line slots j listed l)) (sym first) ∙ there in
    subst (Says (λ _. after) r q) (sym is) (moved slots i ns q (eqb (fault_of (meaning ns)) 0) (fault_of (meaning ns)) after r (subst (Says (λ _. after) r []) here said))

-- not at the end
module _ (bs : List ℕ) (some : bs ≡ [] → ⊥) where
  on : (here more : Got Slots) → at_end bs here more ≡ more
  on = go bs some
    where
      go : (l : List ℕ) → (l ≡ [] → ⊥) → (here more : Got Slots) → at_end l here more ≡ more
      go [] h here more = absurd (h refl)
      go (b ∷ l) h here more = refl

  pub texts_more : (k i : ℕ) (slots after : Slots) (q : List ℕ) → i < k → Read after q ≡ text slots bs → texts (k - (i + 1)) after q ≡ texts (k - i) slots bs
  texts_more k i slots after q lt e =
      let one : k - i ≡ suc (k - (i + 1)) = omega arith in
      ap (λ g. and_then g (texts (k - (i + 1)))) e ∙ sym (on (Read slots bs) (and_then (text slots bs) (texts (k - (i + 1))))) ∙ ap (λ j. texts j slots bs) (sym one)

  pub texts_stop : (k i : ℕ) (slots : Slots) (f : Fault) → i < k → (f ≡ Memory) ⊎ (Bad (number f) ≡ text slots bs) → (f ≡ Memory) ⊎ (Bad (number f) ≡ texts (k - i) slots bs)
  texts_stop k i slots f lt (inl m) = inl m
  texts_stop k i slots f lt (inr e) =
      let one : k - i ≡ suc (k - (i + 1)) = omega arith in
      inr (ap (λ g. and_then g (texts (k - (i + 1)))) e ∙ sym (on (Read slots bs) (and_then (text slots bs) (texts (k - (i + 1))))) ∙ ap (λ j. texts j slots bs) (sym one))

  pub texts_over : (slots : Slots) → Bad 2 ≡ texts 0 slots bs
  texts_over slots = sym (on (Read slots bs) (Bad 2))

-- at the end
pub texts_done : (k : ℕ) (slots : Slots) (bs : List ℕ) → bs ≡ [] → Read slots bs ≡ texts k slots bs
texts_done zero slots bs none = subst (λ l. Read slots l ≡ texts 0 slots l) (sym none) refl
texts_done (suc k) slots bs none = subst (λ l. Read slots l ≡ texts (suc k) slots l) (sym none) refl
