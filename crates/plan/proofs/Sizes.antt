-- A change has a text for each switch, and is read to its end.
use Rattle.std.proofs.Common.{◌≡◌, ℕ, zero, suc, List, [], ◌∷◌, length, replicate, Some, None, Option, Result, sym, refl, ap, ◌∙◌, subst, arith, length-set}
use Rattle.std.proofs.lemmas.List.{length-replicate}
use Rattle.octets.specs.declared.fault.Fault.{Fault}
use Rattle.octets.specs.Parse.{Got, Read, Bad, and_then, check, byte, kind}
use Rattle.octets.proofs.Streams.{never}
use Rattle.octets.proofs.Yields.{Yields, yields_read, yields_then, yields_any}
use Rattle.text.specs.declared.node.Node.{Node}
use Rattle.text.specs.Format.{listed}
use Rattle.plan.specs.Slots.{Slots, free, placed, fitted, whole, consed, finished}
use Rattle.plan.specs.Changes.{text, texts, change}
use Rattle.plan.specs.Views.{Says}

text_size : (slots : Slots) → Yields (text slots) (λ s. length s ≡ length slots)
text_size slots =
    yields_then (λ i. Unit {0}) _ byte _ (yields_any byte) (λ i _.
    yields_then (λ j. Unit {0}) _ (λ r. check (free slots i) 2 i r) _ (yields_any _) (λ j _.
    yields_then (λ ns. Unit {0}) _ listed _ (yields_any listed) (λ ns _.
    yields_then (λ ms. Unit {0}) _ (fitted ns) _ (yields_any (fitted ns)) (λ ms _.
    yields_read (λ s. length s ≡ length slots) (placed j ms slots) (length-set slots j (Some ms))))))

-- nothing is left behind the last text, and no slot came or went
pub texts_size : (k : ℕ) (slots : Slots) (bs : List ℕ) (s : Slots) (q : List ℕ) → texts k slots bs ≡ Read s q → (q ≡ []) × (length s ≡ length slots)
texts_size zero slots [] s q e = let a : q ≡ [] = cc in let b : s ≡ slots = cc in (a, ap length b)
texts_size zero slots (b ∷ bs) s q e = never e
texts_size (suc k) slots [] s q e = let a : q ≡ [] = cc in let b : s ≡ slots = cc in (a, ap length b)
texts_size (suc k) slots (b ∷ bs) s q e = go (text slots (b ∷ bs)) refl e (λ t r. texts_size k t r s q)
  where
    go : (g : Got Slots) → text slots (b ∷ bs) ≡ g → and_then g (texts k) ≡ Read s q →
        ((t : Slots) (r : List ℕ) → texts k t r ≡ Read s q → (q ≡ []) × (length s ≡ length t)) → (q ≡ []) × (length s ≡ length slots)
    go (Read t r) is h more = let rest = more t r h in (rest.0, rest.1 ∙ text_size slots (b ∷ bs) t r is)
    go (Bad n) is h more = never h

consed_size : (ns : List Node) (slots : Slots) (ts : List (List Node)) (o : Option (List (List Node))) → whole slots ≡ o →
    ((us : List (List Node)) → whole slots ≡ Some us → length us ≡ length slots) → consed ns o ≡ Some ts → length ts ≡ suc (length slots)
consed_size ns slots ts None is h e = absurd (let z : ◌≡◌ {A = ℕ} 0 1 = cc in omega arith)
consed_size ns slots ts (Some us) is h e = let same : ts ≡ ns ∷ us = cc in ap length same ∙ ap suc (h us is)

pub whole_size : (slots : Slots) (ts : List (List Node)) → whole slots ≡ Some ts → length ts ≡ length slots
unfolding whole
whole_size [] ts e = let same : ts ≡ [] = cc in ap length same
whole_size (None ∷ slots) ts e = absurd (let z : ◌≡◌ {A = ℕ} 0 1 = cc in omega arith)
whole_size (Some ns ∷ slots) ts e = consed_size ns slots ts (whole slots) refl (whole_size slots) e

-- kind and texts were read, and the plan was finished
pub change_read : {X : Type 0} (f : X → List (List Node)) (r : Result X Fault) (n k : ℕ) (bs mid q : List ℕ) (slots : Slots) →
    Read k mid ≡ kind 66 bs → Read slots q ≡ texts n (replicate n None) mid → Says f r [] (finished slots []) → Says f r [] (change n bs)
change_read f r n k bs mid q slots first all said =
    let ended : q ≡ [] = (texts_size n (replicate n None) mid slots q (sym all)).0 in
    let is : change n bs ≡ finished slots [] =
    ap (λ g. and_then g (λ j t. and_then (texts n (replicate n None) t) finished)) (sym first)
    ∙ ap (λ g. and_then g finished) (sym all) ∙ ap (finished slots) ended in
    subst (Says f r []) (sym is) said

pub change_size : (n : ℕ) (mid q : List ℕ) (slots : Slots) → Read slots q ≡ texts n (replicate n None) mid → length slots ≡ n
change_size n mid q slots all = (texts_size n (replicate n None) mid slots q (sym all)).1 ∙ length-replicate n None
