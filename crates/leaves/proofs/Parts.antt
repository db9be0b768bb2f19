-- What a node of a text tests and puts, by what its operands do.
use Rattle.std.proofs.Common.{◌≡◌, ℕ, ◌<◌, ◌≤◌, true, ◌&&◌, List, [], ◌∷◌, ◌++◌, length, get_or, take, sym, refl, ap, ◌∙◌, ⊎_elim, arith}
use mathlib.Core.List.Memᴰ
use mathlib.Core.List.{Memᴰ}
use Rattle.std.specs.List.{flat_map}
use Rattle.std.proofs.lemmas.List.{append-nil}
use Rattle.std.proofs.lemmas.Bool.{and_parts}
use Rattle.packet.specs.Policy.{Policy, keep}
use Rattle.packet.specs.Table.{Want}
use Rattle.text.specs.declared.node.Node.{Node}
use Rattle.text.specs.declared.node.Node.TheVariants.{Always, Is, Both, Either, Not, Keep, Put, And, Then}
use Rattle.text.specs.declared.node.Sort.TheVariants as sorts
use Rattle.text.specs.Nodes.{fitting, fits, sound}
use Rattle.text.specs.Trees.{as_policy, test_at, policy_at, tree_of, trees}
use Rattle.text.proofs.Sound.{fitting_take, fitting_at, fitting_there, sound_at}
use Rattle.meaning.specs.Kept.{Earlier, Stands}
use Rattle.meaning.proofs.Telling.{stands, test_keeps}
use Rattle.prescribed.specs.Table.{tested, tested_in, put_in}
use Rattle.leaves.specs.Under.{operands, one, test_of, name_of}

-- the pair that a node puts itself
abbrev pub put_of : Node → List Want
put_of Always = []
put_of (Is f x) = []
put_of (Both a b) = []
put_of (Either a b) = []
put_of (Not a) = []
put_of (Keep a) = []
put_of (Put f x) = one f x
put_of (And a b) = []
put_of (Then a b) = []

pub name_parts : (n : Node) → name_of n ≡ test_of n ++ put_of n
name_parts Always = refl
name_parts (Is f x) = refl
name_parts (Both a b) = refl
name_parts (Either a b) = refl
name_parts (Not a) = refl
name_parts (Keep a) = refl
name_parts (Put f x) = refl
name_parts (And a b) = refl
name_parts (Then a b) = refl

of_one : (k b a : ℕ) → b < k → Memᴰ a (b ∷ []) → a < k
of_one k b a h m = ⊎_elim (λ e. omega arith) (λ n. absurd (Memᴰ.not-nil n)) (Memᴰ.cases_cons m)

of_two : (k b c a : ℕ) → (b < k) × (c < k) → Memᴰ a (b ∷ (c ∷ [])) → a < k
of_two k b c a h m = ⊎_elim (λ e. omega (arith, h.0)) (λ n. of_one k c a h.1 n) (Memᴰ.cases_cons m)

pub operand_earlier : (k : ℕ) (n : Node) (a : ℕ) → Earlier k n → Memᴰ a (operands n) → a < k
operand_earlier k Always a h m = absurd (Memᴰ.not-nil m)
operand_earlier k (Is f x) a h m = absurd (Memᴰ.not-nil m)
operand_earlier k (Both b c) a h m = of_two k b c a h m
operand_earlier k (Either b c) a h m = of_two k b c a h m
operand_earlier k (Not b) a h m = of_one k b a h m
operand_earlier k (Keep b) a h m = of_one k b a h m
operand_earlier k (Put f x) a h m = absurd (Memᴰ.not-nil m)
operand_earlier k (And b c) a h m = of_two k b c a h m
operand_earlier k (Then b c) a h m = of_two k b c a h m

abbrev pub node_at : List Node → ℕ → Node
node_at ns a = get_or ns a Always

-- what node k has is its own, or what its operands have
abbrev pub Steps : List Node → (Policy → List Want) → (Node → List Want) → Type 0
Steps ns m own = (k : ℕ) → k < length ns → m (policy_at (trees ns) k) ≡ own (node_at ns k) ++ flat_map (λ a. m (policy_at (trees ns) a)) (operands (node_at ns k))

module _ (ns : List Node) (so : sound [] ns ≡ true) where
  pub standing : (k : ℕ) → k < length ns → Stands ns k (node_at ns k)
  standing k lt = stands ns k (node_at ns k) so lt refl

  -- a test that an operand names stands for keeping it
  kept : (k a : ℕ) → fitting sorts.Test (take k ns) a ≡ true → keep (test_at (trees ns) a) ≡ policy_at (trees ns) a
  kept k a h =
      let f = (fitting_take sorts.Test ns k a h).1 in
      let lt = fitting_there sorts.Test ns a f in
      sym (test_keeps ns a (node_at ns a) (standing a lt) (fitting_at sorts.Test ns a Always lt ∙ f))

  module _ (k : ℕ) where
    abbrev below : (Policy → List Want) → Node → List Want
    below m n = flat_map (λ a. m (policy_at (trees ns) a)) (operands n)

    module _ (m : Policy → List Want) where
      test_one : (a : ℕ) → fitting sorts.Test (take k ns) a ≡ true → m (keep (test_at (trees ns) a)) ≡ m (policy_at (trees ns) a) ++ []
      test_one a h = ap m (kept k a h) ∙ sym (append-nil (m (policy_at (trees ns) a)))

      test_two : (a b : ℕ) → (fitting sorts.Test (take k ns) a && fitting sorts.Test (take k ns) b) ≡ true →
          m (keep (test_at (trees ns) a)) ++ m (keep (test_at (trees ns) b)) ≡ m (policy_at (trees ns) a) ++ (m (policy_at (trees ns) b) ++ [])
      test_two a b h =
          let p = and_parts (fitting sorts.Test (take k ns) a) (fitting sorts.Test (take k ns) b) h in
          λ i. m (kept k a p.0 i) ++ test_one b p.1 i

      policy_two : (a b : ℕ) → m (policy_at (trees ns) a) ++ m (policy_at (trees ns) b) ≡ m (policy_at (trees ns) a) ++ (m (policy_at (trees ns) b) ++ [])
      policy_two a b = ap (λ l. m (policy_at (trees ns) a) ++ l) (sym (append-nil (m (policy_at (trees ns) b))))

    tested_by_lem : (n : Node) → fits (take k ns) n ≡ true → tested_in (as_policy (tree_of (trees ns) n)) ≡ test_of n ++ below tested_in n
    unfolding tree_of tested_in tested
    tested_by_lem Always h = refl
    tested_by_lem (Is f x) h = refl
    tested_by_lem (Both a b) h = test_two tested_in a b h
    tested_by_lem (Either a b) h = test_two tested_in a b h
    tested_by_lem (Not a) h = test_one tested_in a h
    tested_by_lem (Keep a) h = test_one tested_in a h
    tested_by_lem (Put f x) h = refl
    tested_by_lem (And a b) h = policy_two tested_in a b
    tested_by_lem (Then a b) h = policy_two tested_in a b

    put_by : (n : Node) → fits (take k ns) n ≡ true → put_in (as_policy (tree_of (trees ns) n)) ≡ put_of n ++ below put_in n
    unfolding tree_of put_in
    put_by Always h = refl
    put_by (Is f x) h = refl
    put_by (Both a b) h = test_two put_in a b h
    put_by (Either a b) h = test_two put_in a b h
    put_by (Not a) h = test_one put_in a h
    put_by (Keep a) h = test_one put_in a h
    put_by (Put f x) h = refl
    put_by (And a b) h = policy_two put_in a b
    put_by (Then a b) h = policy_two put_in a b

  pub tested_steps : Steps ns tested_in test_of
  tested_steps k lt = ap (λ t. tested_in (as_policy t)) (standing k lt).tree ∙ tested_by_lem k (node_at ns k) (sound_at [] ns k Always so lt)

  pub put_steps : Steps ns put_in put_of
  put_steps k lt = ap (λ t. put_in (as_policy t)) (standing k lt).tree ∙ put_by k (node_at ns k) (sound_at [] ns k Always so lt)

later : (k m : ℕ) (n : Node) → k ≤ m → Earlier k n → Earlier m n
later k m Always le h = tt
later k m (Is f x) le h = tt
later k m (Both a b) le h = (omega (arith, h.0), omega (arith, h.1))
later k m (Either a b) le h = (omega (arith, h.0), omega (arith, h.1))
later k m (Not a) le h = omega arith
later k m (Keep a) le h = omega arith
later k m (Put f x) le h = tt
later k m (And a b) le h = (omega (arith, h.0), omega (arith, h.1))
later k m (Then a b) le h = (omega (arith, h.0), omega (arith, h.1))

-- the operands of a node can be marked
pub operands_within : (ns : List Node) → sound [] ns ≡ true → (k m : ℕ) (n : Node) → n ≡ get_or ns k Always → k < length ns → k ≤ m → Earlier m n
operands_within ns so k m n e lt le = later k m n le (stands ns k n so lt e).earlier
