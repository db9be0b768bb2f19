-- The printed lines of a table, a rule to a line: its wants, an arrow, its outs.
use Rattle.std.specs.Prelude.{ℕ, List, [], ◌∷◌, ◌++◌, codes, decimal}
use Rattle.std.specs.List.{flat_map}
use Rattle.packet.specs.Table.{Want, Setting, Rule, Table}

abbrev pub want_text : Want → List ℕ
want_text w = decimal w.at ++ (codes "=" ++ decimal w.value)

abbrev pub setting_text : Setting → List ℕ
setting_text s = decimal s.at ++ (codes "=" ++ decimal s.value)

-- one after the other with something between them, or a word where there is none
abbrev pub listed : {A : Type 0} → List ℕ → List ℕ → (A → List ℕ) → List A → List ℕ
listed none between text [] = none
listed none between text (x ∷ xs) = text x ++ flat_map (λ y. between ++ text y) xs

abbrev pub wants_text : List Want → List ℕ
wants_text ws = listed (codes "any") (codes " ") want_text ws

abbrev pub out_text : List Setting → List ℕ
out_text o = listed (codes "same") (codes " ") setting_text o

abbrev pub outs_text : List (List Setting) → List ℕ
outs_text os = listed (codes "drop") (codes " | ") out_text os

abbrev pub rule_text : Rule → List ℕ
rule_text r = wants_text r.wants ++ (codes " -> " ++ outs_text r.outs)

-- with the end of the line, which is the character 10
abbrev pub rule_line : Rule → List ℕ
rule_line r = rule_text r ++ 10 ∷ []

abbrev pub table_text : Table → List ℕ
table_text t = flat_map rule_line t
