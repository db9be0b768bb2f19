-- Every plan is good: its texts are in range, and its tables are right for them.
use Rattle.std.proofs.Common.{◌≡◌, ℕ, zero, suc, ◌<◌, List, [], ◌∷◌, map, length, get_or, vec_items, refl, sym, subst, arith}
use Rattle.std.proofs.lemmas.List.{length-map}
use Rattle.packet.specs.Policy.{InRange}
use Rattle.packet.specs.Table.{Right}
use Rattle.text.specs.Trees.{meaning}
use Rattle.prescribed.specs.Table.{same_rule, table_of}
use Rattle.prescribed.proofs.Same.{compares_lists, compares_rules}
use Rattle.prescribed.proofs.Right.{always_right}
use Rattle.plan.specs.declared.part.Part.{Part}
use Rattle.plan.specs.declared.plans.Plan.{Plan}
use Rattle.plan.specs.Parts.{text_in, rules_in}
use Rattle.plan.specs.Views.{texts_of, plan_of}
use Rattle.plan.specs.Laws.{GoodFor}
use Rattle.plan.proofs.Small.{small_ranged}

part_right : (p : Part) → Right (meaning (text_in p)) (rules_in p)
part_right p =
    let same : rules_in p ≡ table_of (meaning (text_in p)) = (compares_lists same_rule compares_rules _ _).0 p.table in
    subst (Right (meaning (text_in p))) (sym same) (always_right (meaning (text_in p)))

parts_ranged : (ps : List Part) (i : ℕ) → InRange (meaning (get_or (map text_in ps) i []))
parts_ranged [] zero = small_ranged [] refl
parts_ranged [] (suc i) = small_ranged [] refl
parts_ranged (p ∷ ps) zero = small_ranged (text_in p) p.small
parts_ranged (p ∷ ps) (suc i) = parts_ranged ps i

parts_right : (ps : List Part) (i : ℕ) → i < length ps → Right (meaning (get_or (map text_in ps) i [])) (get_or (map rules_in ps) i [])
parts_right [] i lt = absurd (omega arith)
parts_right (p ∷ ps) zero lt = part_right p
parts_right (p ∷ ps) (suc i) lt = parts_right ps i (omega arith)

pub parts_good : (ps : List Part) (n : ℕ) → length (map text_in ps) ≡ n →
    GoodFor n (record { text = λ i. meaning (get_or (map text_in ps) i []); table = λ i. get_or (map rules_in ps) i [] })
parts_good ps n size w same =
    record {
      in_range = λ i lt. parts_ranged ps i;
      right = λ i lt. parts_right ps i (omega (arith, length-map ps text_in, size, same));
    }

pub plan_good : (p : Plan) (n : ℕ) → length (texts_of p) ≡ n → GoodFor n (plan_of p)
plan_good p n size = parts_good (vec_items p.parts) n size
