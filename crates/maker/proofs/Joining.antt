-- Y and N in the words of a table, and what they become.
use Rattle.std.proofs.Common.{◌≡◌, ℕ, ◌+◌, ◌-◌, ◌<◌, ◌≤◌, Bool, true, false, List, [], ◌∷◌, ◌++◌, length, take, drop, sym, refl, ap, ◌∙◌, subst, append_assoc, arith, take-add}
use lib.Seq.{paste}
use Rattle.std.specs.List.{flat_map}
use Rattle.std.proofs.lemmas.List.{take_at, length-take-le, length-drop, length-append}
use Rattle.std.proofs.lemmas.Bool.{cond-true, cond-false}
use Rattle.packet.specs.Table.{Table}
use Rattle.prescribed.specs.Table as table
use Rattle.prescribed.specs.Table.{without, same_list, same_rule}
use Rattle.table.specs.Good.{Each, GoodRule}
use Rattle.table.specs.Words.{rule_words, encode}
use Rattle.maker.specs.Compare.{same_without}
use Rattle.maker.specs.Making.{Written}
use Rattle.maker.proofs.SameWords.{same_from_lem, rules_short}

pub joined_append : {X A : Type 0} (f : X → List A) (xs ys : List X) → flat_map f (xs ++ ys) ≡ flat_map f xs ++ flat_map f ys
joined_append f [] ys = refl
joined_append f (x ∷ xs) ys = ap (λ l. f x ++ l) (joined_append f xs ys) ∙ sym (append_assoc (f x) (flat_map f xs) (flat_map f ys))

pub each_append : {A : Type 0} (P : A → Type 0) (xs ys : List A) → Each P xs → Each P ys → Each P (xs ++ ys)
each_append P [] ys hx hy = hy
each_append P (x ∷ xs) ys hx hy = (hx.0, each_append P xs ys hx.1 hy)

-- what a copy of m words from y on leaves in front
moved_front : (y m : ℕ) (ws : List ℕ) → y + m ≤ length ws → take m (paste ws 0 (drop y ws) ((y + m) - y)) ≡ take m (drop y ws)
moved_front y m ws le =
    let e : (y + m) - y ≡ m = omega arith in
    take_at (take ((y + m) - y) (drop y ws)) _ m (length-take-le ((y + m) - y) (drop y ws) (omega (arith, length-drop y ws)) ∙ e) ∙ ap (λ k. take k (drop y ws)) e

module _ (f y n : ℕ) (ws : List ℕ) (s t : Table) (first : take y ws ≡ encode s) (second : take n (drop y ws) ≡ encode t) where
  -- the code's test is the definition's
  pub same_tables : (r : Bool) (a b : List ℕ) → r ≡ same_without f a b → a ≡ take y ws → b ≡ take n (drop y ws) → r ≡ same_list same_rule (without f s) t
  same_tables r a b is ea eb =
      is ∙ (λ i. same_without f ((ea ∙ first) i) ((eb ∙ second) i)) ∙ same_from_lem f (length (encode s)) s t (rules_short s)

  pub joined_same : same_list same_rule (without f s) t ≡ true → y + n ≤ length ws → (after : List ℕ) (rest : ℕ) → after ≡ paste ws 0 (drop y ws) ((y + n) - y) →
      rest ≡ length t → rest ≤ 8192 → Each GoodRule t → Written (table.joined f s t) after n rest
  joined_same same le after rest is count few good =
      let answer : t ≡ table.joined f s t = sym (cond-true _ _ _ same) in
      record { front = ap (take n) is ∙ moved_front y n ws le ∙ second ∙ ap encode answer; count = count ∙ ap length answer; few = few; good = subst (Each GoodRule) answer good }

  pub joined_both : same_list same_rule (without f s) t ≡ false → (more rest : ℕ) → more ≡ length s → rest ≡ length t → more + rest ≤ 8192 → Each GoodRule s → Each GoodRule t →
      Written (table.joined f s t) ws (y + n) (more + rest)
  joined_both other more rest hm hr few gs gt =
      let answer : s ++ t ≡ table.joined f s t = sym (cond-false _ _ _ other) in
      record {
        front = take-add y n ws ∙ (λ i. first i ++ second i) ∙ sym (joined_append rule_words s t) ∙ ap encode answer;
        count = (λ i. hm i + hr i) ∙ sym (length-append s t) ∙ ap length answer;
        few = few;
        good = subst (Each GoodRule) answer (each_append GoodRule s t gs gt);
      }

  pub joined_over : same_list same_rule (without f s) t ≡ false → (more rest : ℕ) → more ≡ length s → rest ≡ length t → 8192 < more + rest → 8192 < length (table.joined f s t)
  joined_over other more rest hm hr over =
      let answer : length (table.joined f s t) ≡ length (s ++ t) = ap length (cond-false _ _ _ other) in
      omega (arith, answer, length-append s t)
