-- A reader that looks at no byte behind what it reads.
use Rattle.std.specs.Prelude.{◌≡◌, ℕ, ◌<◌, List, ◌++◌, length, take}
use Rattle.octets.specs.Parse.{Got, Read, Bad}

-- bs begins with `used`, which reads as x whatever follows it, and every proper front of which is cut short
pub record Consumes {X : Type 0} (reader : List ℕ → Got X) (bs : List ℕ) (x : X) (rest : List ℕ) : Type 0 where
  pub used : List ℕ
  pub whole : bs ≡ used ++ rest
  pub again : (other : List ℕ) → reader (used ++ other) ≡ Read x other
  pub cut : (k : ℕ) → k < length used → reader (take k used) ≡ Bad 1

abbrev pub Streams : {X : Type 0} → (List ℕ → Got X) → Type 0
Streams {X} reader = (bs : List ℕ) (x : X) (rest : List ℕ) → reader bs ≡ Read x rest → Consumes reader bs x rest
