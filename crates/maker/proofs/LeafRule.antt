-- The rule of a leaf, in words and within the limits.
use Rattle.std.proofs.Common.{◌≡◌, ℕ, suc, ◌+◌, ◌≤◌, true, false, eqb, List, [], ◌∷◌, map, length, take, Some, Ok, sym, refl, ap, ◌∙◌, arith}
use Rattle.std.specs.List.{AllByRecursion}
use Rattle.std.proofs.lemmas.List.{append-nil}
use Rattle.std.proofs.lemmas.Bool.{cond_both}
use Rattle.packet.specs.Packet.{Packet}
use Rattle.packet.specs.Policy.{Policy, copies, overfull}
use Rattle.packet.specs.Table.{Want, Setting}
use Rattle.prescribed.specs.Order.{rising, less_out}
use Rattle.prescribed.specs.Table.{sample, changes, table_from}
use Rattle.prescribed.specs.Fit.{leaves, crowded, long}
use Rattle.prescribed.proofs.Rising.{rising_all}
use Rattle.prescribed.proofs.Sample.{length_sample}
use Rattle.table.specs.Good.{Each, GoodWant, GoodOut}
use Rattle.table.specs.Words.{rule_words, encode}
use Rattle.maker.specs.Making.{MadeOf}

each_from : {A : Type 0} (P : A → Type 0) (xs : List A) → AllByRecursion P xs → Each P xs
each_from P [] h = tt
each_from P (x ∷ xs) h = (h.0, each_from P xs h.1)

-- changes are of fields from f on, one for each at most
few_changes : (f : ℕ) (xs ys : Packet) → length (changes f xs ys) ≤ length xs
unfolding changes
few_changes f [] [] = omega arith
few_changes f [] (y ∷ ys) = omega arith
few_changes f (x ∷ xs) [] = omega arith
few_changes f (x ∷ xs) (y ∷ ys) =
    let more = few_changes (f + 1) xs ys in
    cond_both (eqb x y) (changes (f + 1) xs ys) (record { at = f; value = y } ∷ changes (f + 1) xs ys) (λ l. length l ≤ suc (length xs)) (λ e. omega arith) (λ e. omega arith)

low_changes : (f n : ℕ) (xs ys : Packet) → f + length xs ≤ suc n → Each (λ s. s.at ≤ n) (changes f xs ys)
unfolding changes
low_changes f n [] [] le = tt
low_changes f n [] (y ∷ ys) le = tt
low_changes f n (x ∷ xs) [] le = tt
low_changes f n (x ∷ xs) (y ∷ ys) le =
    let more = low_changes (f + 1) n xs ys (omega arith) in
    cond_both (eqb x y) (changes (f + 1) xs ys) (record { at = f; value = y } ∷ changes (f + 1) xs ys) (Each (λ s. s.at ≤ n)) (λ e. more) (λ e. (omega arith, more))

good_changes : (p q : Packet) → length p ≡ 8 → GoodOut (changes 0 p q)
good_changes p q eight = record { few = omega (arith, few_changes 0 p q); settings = low_changes 0 7 p q (omega arith) }

all_changes : (p : Packet) (qs : List Packet) → length p ≡ 8 → AllByRecursion GoodOut (map (changes 0 p) qs)
all_changes p [] eight = tt
all_changes p (q ∷ qs) eight = (good_changes p q eight, all_changes p qs eight)

module _ (a : Policy) (known : List Want) (p : Packet) (is : p ≡ sample a known) where
  pub leaf_made : (outs : List (List Setting)) (words : List ℕ) (n : ℕ) → overfull a p ≡ false → outs ≡ rising less_out (map (changes 0 p) (copies a p)) →
      length known ≤ 8 → Each GoodWant known → length outs ≤ 16 → take n words ≡ rule_words (record { wants = known; outs = outs }) → n ≤ 290 →
      MadeOf a [] known words (Ok (Some (record { words = n; rules = 1 })))
  unfolding crowded long leaves table_from
  leaf_made outs words n clear made wants low few front size =
      let leafed : outs ≡ rising less_out (map (changes 0 (sample a known)) (copies a (sample a known)))
      = made ∙ ap (λ q. rising less_out (map (changes 0 q) (copies a q))) is in
      let rule : ◌≡◌ {A = List ℕ} (take n words) (encode (record { wants = known; outs = rising less_out (map (changes 0 (sample a known)) (copies a (sample a known))) } ∷ []))
      = front ∙ ap (λ o. rule_words (record { wants = known; outs = o })) leafed ∙ sym (append-nil _) in
      let outs_good : Each GoodOut (rising less_out (map (changes 0 (sample a known)) (copies a (sample a known))))
      = each_from GoodOut _ (rising_all less_out GoodOut _ (all_changes (sample a known) (copies a (sample a known)) (length_sample a known))) in (
        ap (overfull a) (sym is) ∙ clear,
        refl,
        omega arith,
        record {
          front = rule;
          count = refl;
          few = omega arith;
          good = (record { few_wants = wants; wants = low; few_outs = omega (arith, ap length leafed); outs = outs_good }, tt);
        },
      )

  pub leaf_crowded : (words : List ℕ) → overfull a p ≡ true → crowded a [] known ≡ true
  unfolding crowded
  leaf_crowded words crowd = ap (overfull a) (sym is) ∙ crowd
