-- The bytes of a table: the number of its rules, and the rules. A rule is the number of its wants, the wants, the number of its
-- outs, and the outs; an out is the number of its settings, and the settings. The rules are counted by two bytes, all else by one.
use Rattle.std.specs.Prelude.{ℕ, List, ◌∷◌, ◌++◌, length}
use Rattle.std.specs.List.{flat_map}
use Rattle.octets.specs.Parse.{word_bytes}
use Rattle.packet.specs.Table.{Want, Setting, Rule, Table}

abbrev pub want_bytes : Want → List ℕ
want_bytes w = w.at ∷ word_bytes w.value

abbrev pub setting_bytes : Setting → List ℕ
setting_bytes s = s.at ∷ word_bytes s.value

abbrev pub wants_bytes : List Want → List ℕ
wants_bytes ws = length ws ∷ flat_map want_bytes ws

abbrev pub out_bytes : List Setting → List ℕ
out_bytes o = length o ∷ flat_map setting_bytes o

abbrev pub outs_bytes : List (List Setting) → List ℕ
outs_bytes os = length os ∷ flat_map out_bytes os

abbrev pub rule_bytes : Rule → List ℕ
rule_bytes r = wants_bytes r.wants ++ outs_bytes r.outs

abbrev pub table_bytes : Table → List ℕ
table_bytes t = word_bytes (length t) ++ flat_map rule_bytes t
