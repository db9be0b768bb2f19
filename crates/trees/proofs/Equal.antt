-- Outs and nodes that `==` finds equal are the same.
use Rattle.std.proofs.Common.{◌≡◌, ℕ, true, Option, Decides, eqb, sym, refl, rules, true≢false}
use Rattle.std.specs.Option.{option_eq}
use Rattle.std.proofs.lemmas.Bool.{and_parts}
use Rattle.std.proofs.lemmas.Slice.Eq.{slice_eq-Decides}
use Rattle.trees.specs.declared.out.Out.{Out}
use Rattle.trees.specs.declared.node.Node.{Node}
use Rattle.trees.specs.declared.node.Node.TheVariants.{Nothing, Also, Test}
use Rattle.trees.specs.contracts.out.OutPartialEq.TheImpl as out
use Rattle.trees.specs.contracts.node.NodePartialEq.TheImpl as node

same_value : (a b : Option ℕ) → Decides (option_eq eqb a b) (a ≡ b)
same_value a b = search rules

pub same_out : (o p : Out) → out.eq-value.it o p ≡ true → o ≡ p
same_out o p h = λ i. record { sets = (slice_eq-Decides {E = option_eq eqb} same_value o.sets p.sets _ refl).0 h i }

pub same_node : (a b : Node) → node.eq-value.it a b ≡ true → a ≡ b
same_node Nothing Nothing h = search rules
same_node Nothing (Also p s) h = absurd (true≢false (sym h))
same_node Nothing (Test g y n v) h = absurd (true≢false (sym h))
same_node (Also o r) Nothing h = absurd (true≢false (sym h))
same_node (Also o r) (Also p s) h = let e : o ≡ p = same_out o p (and_parts _ _ h).0 in search rules
same_node (Also o r) (Test g y n v) h = absurd (true≢false (sym h))
same_node (Test f x m u) Nothing h = absurd (true≢false (sym h))
same_node (Test f x m u) (Also p s) h = absurd (true≢false (sym h))
same_node (Test f x m u) (Test g y n v) h = search rules
