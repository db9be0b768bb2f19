-- Where one rule stands for all leaves below.
--   Beyond ws n w        the pair w is one of ws, and its field is not below n
--   OneRule a rest known r   the table for the pairs `rest`, where some values are known, is the rule r, and nothing on the way to it is too long or has too many copies
use Rattle.std.specs.Prelude.{◌≡◌, ℕ, ◌<◌, ◌≤◌, true, false, List, [], ◌∷◌}
use Rattle.packet.specs.Policy.{Policy}
use Rattle.packet.specs.Table.{Want, Rule}
use Rattle.prescribed.specs.Table.{names, table_from}
use Rattle.prescribed.specs.Fit.{crowded, long}

pub record Beyond (ws : List Want) (n : ℕ) (w : Want) : Type 0 where
  pub past : n ≤ w.at
  pub low : w.at < 8
  pub has : names w.at w.value ws ≡ true

pub record OneRule (a : Policy) (rest known : List Want) (r : Rule) : Type 0 where
  pub table : table_from a rest known ≡ r ∷ []
  pub few : crowded a rest known ≡ false
  pub short : long a rest known ≡ false
