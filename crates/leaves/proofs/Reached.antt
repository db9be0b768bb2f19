-- What a text tests and puts is what the nodes under its last one test and put themselves.
use Rattle.std.proofs.Common.{◌≡◌, ℕ, ◌+◌, ◌-◌, ◌<◌, ◌≤◌, Bool, true, false, ◌⊎◌, List, [], ◌++◌, length, get_or, set, replicate, sym, ap, ◌∙◌, subst, inl, inr, ⊎_elim, arith}
use mathlib.Core.List.Memᴰ
use mathlib.Core.List.{Memᴰ}
use Rattle.std.specs.List.{flat_map}
use Rattle.std.proofs.lemmas.List.{length-set, length-replicate}
use Rattle.std.proofs.lemmas.Bool.{cases_lt, cases_eq, both_ways}
use Rattle.packet.specs.Policy.{Policy}
use Rattle.packet.specs.Table.{Want}
use Rattle.text.specs.declared.node.Node.{Node}
use Rattle.text.specs.Nodes.{sound}
use Rattle.text.specs.Trees.{policy_at, trees, meaning}
use Rattle.prescribed.specs.Table.{tested_in, put_in}
use Rattle.leaves.specs.Under.{operands, marking, test_of, name_of, marked, Under}
use Rattle.leaves.proofs.Freed.{names_same}
use Rattle.leaves.proofs.Parts.{put_of, name_parts, operand_earlier, node_at, Steps, standing, tested_steps, put_steps}
use Rattle.leaves.proofs.Marking.{Marked, marks_keep, marks_there, marks_back, length_marking, one_mark, mark_there, joined_there, joined_back, marked_there, marked_back}

-- a node whose tree is to be looked through has w somewhere in it, and one that was passed has w itself
abbrev HasAt : List Node → (Policy → List Want) → (Node → List Want) → ℕ → Want → ℕ → Type 0
HasAt ns m own k w a = ((a < k) × Memᴰ w (m (policy_at (trees ns) a))) ⊎ ((k ≤ a) × Memᴰ w (own (node_at ns a)))

-- some marked node has w, where the nodes from k on were passed
pub record Shows (ns : List Node) (m : Policy → List Want) (own : Node → List Want) (k : ℕ) (row : List Bool) (w : Want) : Type 0 where
  pub node : ℕ
  pub there : node < length ns
  pub mark : Marked row node
  pub has : HasAt ns m own k w node

-- the marked nodes have just what the text has
abbrev pub Whole : List Node → (Policy → List Want) → (Node → List Want) → ℕ → List Bool → Type 0
Whole ns m own k row = (w : Want) → (Memᴰ w (m (meaning ns)) → Shows ns m own k row w) × (Shows ns m own k row w → Memᴰ w (m (meaning ns)))

module _ (ns : List Node) (m : Policy → List Want) (own : Node → List Want) where
  -- at first the last node is marked alone
  whole_first : 1 ≤ length ns → length ns ≤ 512 → Whole ns m own (length ns) (set (replicate 512 false) (length ns - 1) true)
  whole_first some few w = (
    λ h. record { node = length ns - 1; there = omega arith; mark = mark_there 512 (length ns - 1) (omega arith); has = inl (omega arith, h) },
    λ s. ⊎_elim
        (λ h. subst (λ a. Memᴰ w (m (policy_at (trees ns) a))) (one_mark 512 (length ns - 1) s.node s.mark) h.1)
        (λ h. absurd (omega (arith, s.there, h.0)))
        s.has,
  )

  module _ (so : sound [] ns ≡ true) (steps : Steps ns m own) (k : ℕ) (lt : k < length ns) (row : List Bool) (w : Want) where
    abbrev more : List ℕ
    more = operands (node_at ns k)

    abbrev under : List Want
    under = flat_map (λ a. m (policy_at (trees ns) a)) more

    earlier : (a : ℕ) → Memᴰ a more → a < k
    earlier a i = operand_earlier k (node_at ns k) a (standing ns so k lt).earlier i

    -- node k is marked: it goes by itself from now on, and its operands are marked
    module _ (room : length ns ≤ length row) (here : Marked row k) where
      own_here : Memᴰ w (own (node_at ns k)) → Shows ns m own k (marking more row) w
      own_here o = record { node = k; there = lt; mark = marks_keep more row k here; has = inr (omega arith, o) }

      under_here : Memᴰ w under → Shows ns m own k (marking more row) w
      under_here o =
          let j = joined_back (λ a. m (policy_at (trees ns) a)) more w o in
          let l = earlier j.0 j.1.0 in
          record { node = j.0; there = omega (arith, l); mark = marks_there more row j.0 (omega (arith, l)) j.1.0; has = inl (l, j.1.1) }

      marked_on : Shows ns m own (k + 1) row w → Shows ns m own k (marking more row) w
      marked_on s =
          let elsewhere : HasAt ns m own k w s.node → Shows ns m own k (marking more row) w = λ h. record { node = s.node; there = s.there; mark = marks_keep more row s.node s.mark; has = h } in
          ⊎_elim
          (λ h. ⊎_elim
          (λ l. elsewhere (inl (l, h.1)))
          (λ g.
          let e : s.node ≡ k = omega (arith, h.0) in
          ⊎_elim own_here under_here
          (Memᴰ.append_cases (own (node_at ns k)) (subst (λ l. Memᴰ w l) (ap (λ a. m (policy_at (trees ns) a)) e ∙ steps k lt) h.1)))
          (cases_lt s.node k))
          (λ h. elsewhere (inr (omega (arith, h.0), h.1)))
          s.has

      whole_here : Memᴰ w (own (node_at ns k) ++ under) → Shows ns m own (k + 1) row w
      whole_here o = record { node = k; there = lt; mark = here; has = inl (omega arith, subst (λ l. Memᴰ w l) (sym (steps k lt)) o) }

      marked_off : Shows ns m own k (marking more row) w → Shows ns m own (k + 1) row w
      marked_off s =
          let back = marks_back more row s.node s.mark in
          let elsewhere : Marked row s.node → HasAt ns m own (k + 1) w s.node → Shows ns m own (k + 1) row w = λ b h. record { node = s.node; there = s.there; mark = b; has = h } in
          ⊎_elim
          (λ h. ⊎_elim
          (λ b. elsewhere b (inl (omega (arith, h.0), h.1)))
          (λ i. whole_here (Memᴰ.append_right (own (node_at ns k)) (joined_there (λ a. m (policy_at (trees ns) a)) more s.node w i h.1)))
          back)
          (λ h. ⊎_elim
          (λ b. ⊎_elim
          (λ e. whole_here (Memᴰ.append_left under (subst (λ a. Memᴰ w (own (node_at ns a))) e h.1)))
          (λ ne. elsewhere b (inr (omega (arith, h.0), h.1)))
          (cases_eq s.node k))
          (λ i. absurd (omega (arith, h.0, earlier s.node i)))
          back)
          s.has

    -- node k isn't marked
    module _ (here : get_or row k false ≡ false) where
      other : (a : ℕ) → Marked row a → a ≡ k → ⊥
      other a h e = both_ways (get_or row k false) here (ap (λ j. get_or row j false) (sym e) ∙ h)

      passed_on : Shows ns m own (k + 1) row w → Shows ns m own k row w
      passed_on s =
          let ne = other s.node s.mark in
          let has = ⊎_elim (λ h. inl (omega (arith, ne, h.0), h.1)) (λ h. inr (omega (arith, h.0), h.1)) s.has in
          record { node = s.node; there = s.there; mark = s.mark; has = has }

      passed_off : Shows ns m own k row w → Shows ns m own (k + 1) row w
      passed_off s =
          let ne = other s.node s.mark in
          let has = ⊎_elim (λ h. inl (omega (arith, h.0), h.1)) (λ h. inr (omega (arith, ne, h.0), h.1)) s.has in
          record { node = s.node; there = s.there; mark = s.mark; has = has }

  module _ (so : sound [] ns ≡ true) (steps : Steps ns m own) (k : ℕ) (lt : k < length ns) (row : List Bool) (whole : Whole ns m own (k + 1) row) where
    whole_marked : length ns ≤ length row → Marked row k → Whole ns m own k (marking (operands (node_at ns k)) row)
    whole_marked room here w = (λ h. marked_on so steps k lt row w room here ((whole w).0 h), λ s. (whole w).1 (marked_off so steps k lt row w room here s))

    whole_passed : get_or row k false ≡ false → Whole ns m own k row
    whole_passed here w = (λ h. passed_on so steps k lt row w here ((whole w).0 h), λ s. (whole w).1 (passed_off so steps k lt row w here s))

-- what is tested and what is put
pub record Reaches (ns : List Node) (k : ℕ) (row : List Bool) : Type 0 where
  pub room : length row ≡ 512
  pub tested : Whole ns tested_in test_of k row
  pub put : Whole ns put_in put_of k row

module _ (ns : List Node) (so : sound [] ns ≡ true) (few : length ns ≤ 512) where
  pub reaches_first : 1 ≤ length ns → Reaches ns (length ns) (set (replicate 512 false) (length ns - 1) true)
  reaches_first some =
      record {
        room = length-set (replicate 512 false) (length ns - 1) true ∙ length-replicate 512 false;
        tested = whole_first ns tested_in test_of some few;
        put = whole_first ns put_in put_of some few;
      }

  module _ (k : ℕ) (lt : k < length ns) (row : List Bool) (r : Reaches ns (k + 1) row) where
    pub reaches_marked : Marked row k → Reaches ns k (marking (operands (node_at ns k)) row)
    reaches_marked here =
        let room : length ns ≤ length row = omega (arith, r.room) in
        record {
          room = length_marking (operands (node_at ns k)) row ∙ r.room;
          tested = whole_marked ns tested_in test_of so (tested_steps ns so) k lt row r.tested room here;
          put = whole_marked ns put_in put_of so (put_steps ns so) k lt row r.put room here;
        }

    pub reaches_passed : get_or row k false ≡ false → Reaches ns k row
    reaches_passed here =
        record {
          room = r.room;
          tested = whole_passed ns tested_in test_of so (tested_steps ns so) k lt row r.tested here;
          put = whole_passed ns put_in put_of so (put_steps ns so) k lt row r.put here;
        }

-- at the end each marked node has its own alone
module _ (ns : List Node) (row : List Bool) (r : Reaches ns 0 row) (w : Want) where
  own_of : (m : Policy → List Want) (own : Node → List Want) (s : Shows ns m own 0 row w) → Memᴰ w (own (node_at ns s.node))
  own_of m own s = ⊎_elim (λ h. absurd (omega (arith, h.0))) (λ h. h.1) s.has

  shows : (m : Policy → List Want) (own : Node → List Want) (a : ℕ) → a < length ns → Marked row a → Memᴰ w (own (node_at ns a)) → Shows ns m own 0 row w
  shows m own a lt h o = record { node = a; there = lt; mark = h; has = inr (omega arith, o) }

  same_tested : (Memᴰ w (marked test_of row ns) → Memᴰ w (tested_in (meaning ns))) × (Memᴰ w (tested_in (meaning ns)) → Memᴰ w (marked test_of row ns))
  same_tested = (
    λ h. let b = marked_back test_of w row ns h in (r.tested w).1 (shows tested_in test_of b.0 b.1.0 b.1.1.0 b.1.1.1),
    λ h. let s = (r.tested w).0 h in marked_there test_of w row ns s.node s.there s.mark (own_of tested_in test_of s),
  )

  named_by : (a : ℕ) → a < length ns → Marked row a → Memᴰ w (test_of (node_at ns a) ++ put_of (node_at ns a)) → Memᴰ w (marked name_of row ns)
  named_by a lt h o = marked_there name_of w row ns a lt h (subst (λ l. Memᴰ w l) (sym (name_parts (node_at ns a))) o)

  named_in : Memᴰ w (marked name_of row ns) → Memᴰ w (tested_in (meaning ns) ++ put_in (meaning ns))
  named_in h =
      let b = marked_back name_of w row ns h in
      ⊎_elim
      (λ o. Memᴰ.append_left (put_in (meaning ns)) ((r.tested w).1 (shows tested_in test_of b.0 b.1.0 b.1.1.0 o)))
      (λ o. Memᴰ.append_right (tested_in (meaning ns)) ((r.put w).1 (shows put_in put_of b.0 b.1.0 b.1.1.0 o)))
      (Memᴰ.append_cases (test_of (node_at ns b.0)) (subst (λ l. Memᴰ w l) (name_parts (node_at ns b.0)) b.1.1.1))

  named_from : Memᴰ w (tested_in (meaning ns) ++ put_in (meaning ns)) → Memᴰ w (marked name_of row ns)
  named_from h =
      ⊎_elim
      (λ o. let s = (r.tested w).0 o in named_by s.node s.there s.mark (Memᴰ.append_left (put_of (node_at ns s.node)) (own_of tested_in test_of s)))
      (λ o. let s = (r.put w).0 o in named_by s.node s.there s.mark (Memᴰ.append_right (test_of (node_at ns s.node)) (own_of put_in put_of s)))
      (Memᴰ.append_cases (tested_in (meaning ns)) h)

pub reached : (ns : List Node) (row : List Bool) → Reaches ns 0 row → Under ns row
reached ns row r =
    record {
      tested = λ f x. names_same f x _ _ (λ w. same_tested ns row r w);
      named = λ f x. names_same f x _ _ (λ w. (named_in ns row r w, named_from ns row r w));
    }
