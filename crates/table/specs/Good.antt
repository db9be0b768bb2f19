-- Tables within the limits, and what their words have to do with them.
use Rattle.std.specs.Prelude.{◌≡◌, ℕ, ◌≤◌, List, [], ◌∷◌, length}
use Rattle.packet.specs.Table.{Want, Setting, Rule, Table}
use Rattle.table.specs.Words.{most_rules, Sound, rules_of, encode}

-- P holds of each element
abbrev pub Each : {A : Type 0} → (A → Type 0) → List A → Type 0
Each P [] = Unit {0}
Each P (x ∷ xs) = P x × Each P xs

abbrev pub GoodWant : Want → Type 0
GoodWant w = w.at ≤ 7

abbrev pub GoodSetting : Setting → Type 0
GoodSetting s = s.at ≤ 7

pub record GoodOut (o : List Setting) : Type 0 where
  pub few : length o ≤ 8
  pub settings : Each GoodSetting o

pub record GoodRule (r : Rule) : Type 0 where
  pub few_wants : length r.wants ≤ 8
  pub wants : Each GoodWant r.wants
  pub few_outs : length r.outs ≤ 16
  pub outs : Each GoodOut r.outs

pub record Good (t : Table) : Type 0 where
  pub few : length t ≤ most_rules
  pub rules : Each GoodRule t

-- the words of such a table are sound, and it stands in them
abbrev pub ReadsBack : Type 0
ReadsBack = (t : Table) → Good t → Sound (encode t) × (rules_of (encode t) ≡ t)

-- in sound words stands such a table, and they are its words
abbrev pub WritesBack : Type 0
WritesBack = (ws : List ℕ) → Sound ws → Good (rules_of ws) × (encode (rules_of ws) ≡ ws)
