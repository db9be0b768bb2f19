-- The prescribed table of a policy: the same one whoever makes it.
use Rattle.std.specs.Prelude.{ℕ, zero, suc, ◌+◌, Bool, true, false, cond, ◌&&◌, ◌||◌, List, [], ◌∷◌, ◌++◌, map, length, ◌==◌}
use Rattle.packet.specs.Packet.{Packet, put}
use Rattle.packet.specs.Policy.{Test, always, is, both, either, isnt, Policy, keep, puts, and, then, copies}
use Rattle.packet.specs.Table.{Want, Setting, Rule, Table}
use Rattle.prescribed.specs.Order.{rising, less_want, less_out}

-- the pairs (field, value) that are tested, and those that are put
unfoldable pub tested : Test → List Want
tested always = []
tested (is f x) = record { at = f; value = x } ∷ []
tested (both a b) = tested a ++ tested b
tested (either a b) = tested a ++ tested b
tested (isnt a) = tested a

unfoldable pub tested_in : Policy → List Want
tested_in (keep a) = tested a
tested_in (puts f x) = []
tested_in (and a b) = tested_in a ++ tested_in b
tested_in (then a b) = tested_in a ++ tested_in b

unfoldable pub put_in : Policy → List Want
put_in (keep a) = []
put_in (puts f x) = record { at = f; value = x } ∷ []
put_in (and a b) = put_in a ++ put_in b
put_in (then a b) = put_in a ++ put_in b

abbrev pub pairs_of : Policy → List Want
pairs_of a = rising less_want (tested_in a)

-- the smallest value that none of the pairs has at the field f
unfoldable pub names : ℕ → ℕ → List Want → Bool
names f x [] = false
names f x (w ∷ ws) = (w.at == f && w.value == x) || names f x ws

unfoldable pub free_from : ℕ → ℕ → ℕ → List Want → ℕ
free_from zero f x ws = x
free_from (suc n) f x ws = cond (names f x ws) (free_from n f (x + 1) ws) x

abbrev pub free : ℕ → List Want → ℕ
free f ws = free_from (length ws) f 0 ws

-- a packet whose fields have values that the policy names nowhere
abbrev pub unnamed : Policy → Packet
unnamed a =
    let ws = tested_in a ++ put_in a in
    free 0 ws ∷ (free 1 ws ∷ (free 2 ws ∷ (free 3 ws ∷ (free 4 ws ∷ (free 5 ws ∷ (free 6 ws ∷ (free 7 ws ∷ [])))))))

-- the same packet with what is known
unfoldable pub knowing : List Want → Packet → Packet
knowing [] p = p
knowing (w ∷ ws) p = knowing ws (put w.at w.value p)

abbrev pub sample : Policy → List Want → Packet
sample a known = knowing known (unnamed a)

-- the fields, from f on, in which a copy differs from the packet: those that were set, but for those known to have that value already
unfoldable pub changes : ℕ → Packet → Packet → List Setting
changes f [] [] = []
changes f [] (y ∷ ys) = []
changes f (x ∷ xs) [] = []
changes f (x ∷ xs) (y ∷ ys) = cond (x == y) (changes (f + 1) xs ys) (record { at = f; value = y } ∷ changes (f + 1) xs ys)

-- the rule where nothing is left to be asked
abbrev pub leaf : Policy → List Want → Rule
leaf a known = record { wants = known; outs = rising less_out (map (changes 0 (sample a known)) (copies a (sample a known))) }

unfoldable pub is_known : ℕ → List Want → Bool
is_known f [] = false
is_known f (w ∷ ws) = w.at == f || is_known f ws

-- a table without the wants of the field f
unfoldable pub drop_field : ℕ → List Want → List Want
drop_field f [] = []
drop_field f (w ∷ ws) = cond (w.at == f) (drop_field f ws) (w ∷ drop_field f ws)

unfoldable pub without : ℕ → Table → Table
without f [] = []
without f (r ∷ rs) = record { wants = drop_field f r.wants; outs = r.outs } ∷ without f rs

-- the same rules
abbrev pub same_want : Want → Want → Bool
same_want v w = v.at == w.at && v.value == w.value

abbrev pub same_setting : Setting → Setting → Bool
same_setting s t = s.at == t.at && s.value == t.value

unfoldable pub same_list : {A : Type 0} → (A → A → Bool) → List A → List A → Bool
same_list same [] [] = true
same_list same [] (y ∷ ys) = false
same_list same (x ∷ xs) [] = false
same_list same (x ∷ xs) (y ∷ ys) = same x y && same_list same xs ys

abbrev pub same_rule : Rule → Rule → Bool
same_rule q r = same_list same_want q.wants r.wants && same_list (same_list same_setting) q.outs r.outs

-- Y where the field f has the value, N where it has not: N alone if Y asks nothing else
abbrev pub joined : ℕ → Table → Table → Table
joined f y n = cond (same_list same_rule (without f y) n) n (y ++ n)

-- the table for the pairs that are left, where some values are known
unfoldable pub table_from : Policy → List Want → List Want → Table
table_from a [] known = leaf a known ∷ []
table_from a (w ∷ ws) known =
    cond (is_known w.at known) (table_from a ws known)
    (joined w.at (table_from a ws (known ++ w ∷ [])) (table_from a ws known))

-- a rule in front of what is left of the rules behind it
abbrev pub trim_to : Rule → Table → Table
trim_to r (q ∷ qs) = r ∷ (q ∷ qs)
trim_to r [] = cond (no_outs r.outs) [] (r ∷ [])
  where
    no_outs : List (List Setting) → Bool
    no_outs [] = true
    no_outs (o ∷ os) = false

-- every rule behind the last one with outs is left out
unfoldable pub trim : Table → Table
trim [] = []
trim (r ∷ rs) = trim_to r (trim rs)

abbrev pub whole_table : Policy → Table
whole_table a = table_from a (pairs_of a) []

abbrev pub table_of : Policy → Table
table_of a = trim (whole_table a)
