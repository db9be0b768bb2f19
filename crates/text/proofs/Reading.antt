-- Reading nodes: what is read fits, one node more, and the first node that is at fault.
use Rattle.std.proofs.Common.{◌≡◌, ℕ, zero, suc, ◌+◌, ◌-◌, ◌<◌, true, eqb, leb, ltb, List, [], ◌∷◌, ◌++◌, length, sym, refl, ap, ◌∙◌, arith}
use Rattle.std.proofs.lemmas.List.{length_push}
use Rattle.std.proofs.lemmas.Bool.{and_from, le-leb, ltb-true}
use Rattle.octets.specs.Parse.{Read, Bad, and_then, check, byte, word}
use Rattle.octets.proofs.Yields.{Yields, yields_read, yields_bad, yields_check, yields_cond, yields_then, yields_any}
use Rattle.text.specs.declared.node.Node.{Node}
use Rattle.text.specs.declared.node.Node.TheVariants.{Always, Is, Both, Either, Not, Keep, Put, And, Then}
use Rattle.text.specs.declared.node.Sort.{Sort}
use Rattle.text.specs.declared.node.Sort.TheVariants.{Test, Policy}
use Rattle.text.specs.Nodes.{fitting, fits, sound}
use Rattle.text.specs.Format.{field, operand, valued, unary, binary, of_kind, node, nodes}
use Rattle.text.proofs.Sound.{sound_push}

pub nodes_more : (k i : ℕ) (ns : List Node) (bs : List ℕ) (n : Node) (r : List ℕ) → i < k → Read n r ≡ node ns bs →
    nodes (k - (i + 1)) (ns ++ n ∷ []) r ≡ nodes (k - i) ns bs
nodes_more k i ns bs n r h e =
    let one : k - i ≡ suc (k - (i + 1)) = omega arith in
    ap (λ g. and_then g (λ m q. nodes (k - (i + 1)) (ns ++ m ∷ []) q)) e ∙ ap (λ j. nodes j ns bs) (sym one)

pub nodes_stop : (k i : ℕ) (ns : List Node) (bs : List ℕ) (f : ℕ) → i < k → Bad f ≡ node ns bs → Bad f ≡ nodes (k - i) ns bs
nodes_stop k i ns bs f h e =
    let one : k - i ≡ suc (k - (i + 1)) = omega arith in
    ap (λ g. and_then g (λ m q. nodes (k - (i + 1)) (ns ++ m ∷ []) q)) e ∙ ap (λ j. nodes j ns bs) (sym one)

-- what is read fits behind the nodes before it
module _ (ns : List Node) where
  operand_fits : (want : Sort) → Yields (operand want ns) (λ k. fitting want ns k ≡ true)
  operand_fits want = yields_then (λ k. Unit {0}) _ word (λ k r. check (fitting want ns k) 3 k r) (yields_any word) (λ k h. yields_check _ _ 3 k (λ t. t))

  field_fits : Yields field (λ f. leb f 7 ≡ true)
  field_fits =
      yields_then (λ k. Unit {0}) _ byte (λ f r. check (ltb f 8) 2 f r) (yields_any byte) (λ f h. yields_check _ (ltb f 8) 2 f (λ t. le-leb f 7 (omega (arith, ltb-true f 8 t))))

  valued_fits : (make : ℕ → ℕ → Node) → ((f x : ℕ) → leb f 7 ≡ true → fits ns (make f x) ≡ true) → Yields (valued make) (λ n. fits ns n ≡ true)
  valued_fits make h =
      yields_then _ _ field _ field_fits (λ f small. yields_then (λ k. Unit {0}) _ word _ (yields_any word) (λ x _. yields_read _ (make f x) (h f x small)))

  unary_fits : (want : Sort) (make : ℕ → Node) → ((a : ℕ) → fitting want ns a ≡ true → fits ns (make a) ≡ true) → Yields (unary want make ns) (λ n. fits ns n ≡ true)
  unary_fits want make h = yields_then _ _ (operand want ns) _ (operand_fits want) (λ a ok. yields_read _ (make a) (h a ok))

  binary_fits : (want : Sort) (make : ℕ → ℕ → Node) → ((a b : ℕ) → fitting want ns a ≡ true → fitting want ns b ≡ true → fits ns (make a b) ≡ true) →
      Yields (binary want make ns) (λ n. fits ns n ≡ true)
  binary_fits want make h =
      yields_then _ _ (operand want ns) _ (operand_fits want) (λ a ok. yields_then _ _ (operand want ns) _ (operand_fits want) (λ b so. yields_read _ (make a b) (h a b ok so)))

  kind_fits : (k : ℕ) → Yields (of_kind ns k) (λ n. fits ns n ≡ true)
  kind_fits k =
      yields_cond _ (eqb k 1) _ _ (yields_read _ Always refl)
      (yields_cond _ (eqb k 2) _ _ (valued_fits Is (λ f x h. h))
      (yields_cond _ (eqb k 3) _ _ (binary_fits Test Both (λ a b h g. and_from _ _ h g))
      (yields_cond _ (eqb k 4) _ _ (binary_fits Test Either (λ a b h g. and_from _ _ h g))
      (yields_cond _ (eqb k 5) _ _ (unary_fits Test Not (λ a h. h))
      (yields_cond _ (eqb k 6) _ _ (unary_fits Test Keep (λ a h. h))
      (yields_cond _ (eqb k 7) _ _ (valued_fits Put (λ f x h. h))
      (yields_cond _ (eqb k 8) _ _ (binary_fits Policy And (λ a b h g. and_from _ _ h g))
      (yields_cond _ (eqb k 9) _ _ (binary_fits Policy Then (λ a b h g. and_from _ _ h g))
      (yields_bad _ 1)))))))))

  pub node_fits : Yields (node ns) (λ n. fits ns n ≡ true)
  node_fits = yields_then (λ k. Unit {0}) _ byte (of_kind ns) (yields_any byte) (λ k _. kind_fits k)

-- k nodes more, all of them sound
abbrev pub Grown : ℕ → List Node → List Node → Type 0
Grown k ns ms = (length ms ≡ length ns + k) × (sound [] ns ≡ true → sound [] ms ≡ true)

pub nodes_grow : (k : ℕ) (ns : List Node) → Yields (nodes k ns) (Grown k ns)
nodes_grow zero ns = yields_read _ ns (omega arith, λ s. s)
nodes_grow (suc k) ns =
    yields_then _ _ (node ns) _ (node_fits ns)
    (λ n fit bs ms r e. let g = nodes_grow k (ns ++ n ∷ []) bs ms r e in (omega (arith, g.0, length_push ns n), λ s. g.1 (sound_push [] ns n s fit)))
