-- The texts of all switches, gathered one by one.
use Rattle.std.proofs.Common.{◌≡◌, List, [], ◌∷◌, ◌++◌, map, Some, None, Option, sym, refl, ap, ◌∙◌}
use Rattle.std.specs.Option.{option_map}
use Rattle.std.proofs.lemmas.List.{append-nil, append_assoc, map_push}
use Rattle.text.specs.declared.node.Node.{Node}
use Rattle.plan.specs.declared.part.Part.{Part}
use Rattle.plan.specs.Parts.{text_in}
use Rattle.plan.specs.Slots.{whole, consed}
use Rattle.plan.specs.Views.{slot_of}

-- texts in front of what the other slots give
pub before : List (List Node) → Option (List (List Node)) → Option (List (List Node))
before ts rest = option_map (λ l. ts ++ l) rest

before_none : (o : Option (List (List Node))) → before [] o ≡ o
unfolding before
before_none None = refl
before_none (Some l) = refl

before_one : (ts : List (List Node)) (t : List Node) (o : Option (List (List Node))) → before ts (consed t o) ≡ before (ts ++ t ∷ []) o
unfolding before
before_one ts t None = refl
before_one ts t (Some l) = ap Some (sym (append_assoc ts (t ∷ []) l))

module _ (all : List (Option Part)) where
  pub gather_none : (ps : List Part) (rest : List (Option Part)) → ps ≡ [] → rest ≡ all → whole (map slot_of all) ≡ before (map text_in ps) (whole (map slot_of rest))
  gather_none ps rest none same = sym (ap (λ l. before (map text_in l) (whole (map slot_of rest))) none ∙ before_none (whole (map slot_of rest)) ∙ ap (λ l. whole (map slot_of l)) same)

  module _ (ps : List Part) (rest : List (Option Part)) (inv : whole (map slot_of all) ≡ before (map text_in ps) (whole (map slot_of rest))) where
    pub gather_more : (p : Part) (more : List (Option Part)) (now : List Part) → rest ≡ Some p ∷ more → now ≡ ps ++ p ∷ [] →
        whole (map slot_of all) ≡ before (map text_in now) (whole (map slot_of more))
    unfolding whole
    gather_more p more now is grown =
        inv ∙ ap (λ l. before (map text_in ps) (whole (map slot_of l))) is ∙ before_one (map text_in ps) (text_in p) (whole (map slot_of more))
        ∙ ap (λ l. before l (whole (map slot_of more))) (sym (ap (map text_in) grown ∙ map_push text_in ps p))

    pub gather_missing : (more : List (Option Part)) → rest ≡ None ∷ more → whole (map slot_of all) ≡ None
    unfolding whole before
    gather_missing more is = inv ∙ ap (λ l. before (map text_in ps) (whole (map slot_of l))) is

    pub gather_all : rest ≡ [] → whole (map slot_of all) ≡ Some (map text_in ps)
    unfolding whole before
    gather_all is = inv ∙ ap (λ l. before (map text_in ps) (whole (map slot_of l))) is ∙ ap Some (append-nil (map text_in ps))
