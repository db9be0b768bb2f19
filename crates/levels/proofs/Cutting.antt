-- Where what a policy does rests on no field that is still to be asked for, the table is one rule.
use Rattle.std.proofs.Common.{◌≡◌, ℕ, ◌<◌, ◌≤◌, true, false, ◌||◌, eqb, ltb, List, [], ◌∷◌, ◌++◌, map, length, sym, refl, ap, ◌∙◌, subst, ⊎_elim, arith}
use mathlib.Core.List.Memᴰ
use Rattle.std.specs.List.{AllByRecursion}
use Rattle.std.proofs.lemmas.List.{append-nil, get_or-set_same, get_or-set_other}
use Rattle.std.proofs.lemmas.Bool.{cases_Bool, cases_eq, both_ways, or_parts, or_from, cond-true, cond-false, eq-eqb}
use Rattle.packet.specs.Packet.{Packet, field, put}
use Rattle.packet.specs.Policy.{Policy, copies, overfull}
use Rattle.packet.specs.Table.{Want, Rule}
use Rattle.prescribed.specs.Order.{rising, less_out}
use Rattle.prescribed.specs.Table.{tested_in, put_in, names, unnamed, knowing, sample, changes, leaf, is_known, drop_field, without, same_rule, joined, table_from}
use Rattle.prescribed.specs.Fit.{crowded, long}
use Rattle.prescribed.proofs.Free.{named}
use Rattle.prescribed.proofs.Sample.{knowing_push, length_sample, sample_unnamed}
use Rattle.prescribed.proofs.Asks.{drop_field_append}
use Rattle.prescribed.proofs.Same.{compares_lists, compares_rules}
use Rattle.levels.specs.Like.{Agree}
use Rattle.levels.specs.Rests.{Clear, Rests}
use Rattle.levels.specs.Cut.{Beyond, OneRule}
use Rattle.levels.specs.Laws.{LeavesAlike, OneRuleBelow}
use Rattle.levels.proofs.Likes.{like_start, changed_alike}

-- a packet of values that are named nowhere is clear, and stays so where a value of one of the pairs is put
pub clear_unnamed : (ws : List Want) (a : Policy) → Clear ws a (unnamed a)
unfolding knowing is_known
clear_unnamed ws a w m lt new e =
    both_ways (names w.at w.value (tested_in a ++ put_in a))
    (ap (λ x. names w.at x (tested_in a ++ put_in a)) e ∙ sample_unnamed a [] w.at lt refl) (named w (tested_in a ++ put_in a) (Memᴰ.append_right (tested_in a) m))

pub clear_put : (ws : List Want) (a : Policy) (p : Packet) (f x : ℕ) → length p ≡ 8 → f < 8 → names f x ws ≡ true → Clear ws a p → Clear ws a (put f x p)
clear_put ws a p f x eight low has clear w m lt new e =
    ⊎_elim
    (λ same.
    let is : w.value ≡ x = e ∙ ap (λ g. field g (put f x p)) same ∙ get_or-set_same p f x 0 (omega arith) in
    both_ways (names f x ws) ((λ i. names (sym same i) (sym is i) ws) ∙ new) has)
    (λ other. clear w m lt new (e ∙ get_or-set_other p f w.at x 0 other))
    (cases_eq w.at f)

-- what is not known is not left out
drop_field_lacks : (f : ℕ) (ws : List Want) → is_known f ws ≡ false → drop_field f ws ≡ ws
unfolding drop_field is_known
drop_field_lacks f [] h = refl
drop_field_lacks f (w ∷ ws) h =
    let k = or_parts (eqb w.at f) (is_known f ws) h in
    cond-false (eqb w.at f) _ _ k.0 ∙ ap (λ l. w ∷ l) (drop_field_lacks f ws k.1)

drop_field_last : (known : List Want) (w : Want) → is_known w.at known ≡ false → drop_field w.at (known ++ w ∷ []) ≡ known
unfolding drop_field
drop_field_last known w h =
    drop_field_append w.at known (w ∷ [])
    ∙ (λ i. drop_field_lacks w.at known h i ++ cond-true (eqb w.at w.at) [] (w ∷ []) (eq-eqb w.at w.at refl) i)
    ∙ append-nil known

module _ (ws : List Want) (a : Policy) (n : ℕ) (p : Packet) (eight : length p ≡ 8) (clear : Clear ws a p) (rests : Rests ws a n p p) (few : overfull a p ≡ false) where
  -- a leaf that agrees
  module _ (known : List Want) (agree : Agree n p (sample a known)) (too : Clear ws a (sample a known)) where
    outs_same : (leaf a known).outs ≡ rising less_out (map (changes 0 p) (copies a p))
    outs_same =
        let s = sample a known in
        let way = rests s s agree clear too (like_start p s eight (length_sample a known)) in
        ap (rising less_out) (sym (changed_alike p s (copies a p) (copies a s) eight (length_sample a known) way.each))

    few_too : overfull a (sample a known) ≡ false
    few_too = let s = sample a known in sym (rests s s agree clear too (like_start p s eight (length_sample a known))).full ∙ few

  -- a rule that wants what is known
  abbrev ruled : List Want → Rule
  ruled known = record { wants = known; outs = rising less_out (map (changes 0 p) (copies a p)) }

  -- Y without the wants of the field is N
  join_one : (w : Want) (known : List Want) → is_known w.at known ≡ false → joined w.at (ruled (known ++ w ∷ []) ∷ []) (ruled known ∷ []) ≡ ruled known ∷ []
  unfolding without
  join_one w known new =
      cond-true _ _ _ ((compares_lists same_rule compares_rules _ _).1 (λ i. record { wants = drop_field_last known w new i; outs = rising less_out (map (changes 0 p) (copies a p)) } ∷ []))

  agree_more : (known : List Want) (w : Want) → n ≤ w.at → Agree n p (sample a known) → Agree n p (sample a (known ++ w ∷ []))
  agree_more known w le agree f lt =
      agree f lt ∙ sym (ap (field f) (knowing_push known w (unnamed a)) ∙ get_or-set_other (sample a known) w.at f w.value 0 (λ e. omega arith))

  clear_more : (known : List Want) (w : Want) → w.at < 8 → names w.at w.value ws ≡ true → Clear ws a (sample a known) → Clear ws a (sample a (known ++ w ∷ []))
  clear_more known w low has too =
      subst (Clear ws a) (sym (knowing_push known w (unnamed a))) (clear_put ws a (sample a known) w.at w.value (length_sample a known) low has too)

  pub one_rule : (rest known : List Want) → AllByRecursion (Beyond ws n) rest → Agree n p (sample a known) → Clear ws a (sample a known) → OneRule a rest known (ruled known)
  unfolding table_from crowded long
  one_rule [] known far agree too = record { table = ap (λ o. record { wants = known; outs = o } ∷ []) (outs_same known agree too); few = few_too known agree too; short = refl }
  one_rule (w ∷ rest) known far agree too =
      let no = one_rule rest known far.1 agree too in
      let yes = one_rule rest (known ++ w ∷ []) far.1 (agree_more known w far.0.past agree) (clear_more known w far.0.low far.0.has too) in
      ⊎_elim
      (λ is.
      let table = cond-true (is_known w.at known) (table_from a rest known) _ is ∙ no.table in
      record {
        table = table;
        few = cond-true (is_known w.at known) (crowded a rest known) _ is ∙ no.few;
        short =
            or_from _ _ (ap (λ t. ltb 8192 (length t)) table)
            (cond-true (is_known w.at known) (long a rest known) (long a rest (known ++ w ∷ []) || long a rest known) is ∙ no.short);
      })
      (λ new.
      let table = cond-false (is_known w.at known) _ (joined w.at (table_from a rest (known ++ w ∷ [])) (table_from a rest known)) new
      ∙ (λ i. joined w.at (yes.table i) (no.table i)) ∙ join_one w known new in
      record {
        table = table;
        few = cond-false (is_known w.at known) _ (crowded a rest (known ++ w ∷ []) || crowded a rest known) new ∙ or_from _ _ yes.few no.few;
        short =
            or_from _ _ (ap (λ t. ltb 8192 (length t)) table)
            (cond-false (is_known w.at known) (long a rest known) (long a rest (known ++ w ∷ []) || long a rest known) new ∙ or_from _ _ yes.short no.short);
      })
      (cases_Bool (is_known w.at known))

pub leaves_alike : LeavesAlike
leaves_alike ws a n known more clear too rests few agree =
    let p = sample a known in (
      outs_same ws a n p (length_sample a known) clear rests few more agree too,
      few_too ws a n p (length_sample a known) clear rests few more agree too,
    )

pub one_rule_below : OneRuleBelow
one_rule_below ws a n rest known clear rests few far =
    one_rule ws a n (sample a known) (length_sample a known) clear rests few rest known far (λ f lt. refl) clear
