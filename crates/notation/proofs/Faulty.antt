-- A number that is too large for a node's is no node's number.
use Rattle.std.proofs.Common.{◌≡◌, ℕ, ◌≤◌, Bool, true, false, leb, List, length, refl, ap, ◌∙◌, arith}
use Rattle.std.proofs.lemmas.Bool.{leb-false}
use Rattle.text.specs.declared.node.Sort.{Sort}
use Rattle.text.specs.Nodes.{fitting}
use Rattle.text.proofs.Sound.{fitting_past}
use Rattle.notation.specs.Words.{Word}
use Rattle.notation.specs.Reading.{Got, Read, Bad, and_then, check, numeral, up_to}
use Rattle.notation.specs.Operands.{Sofar, written}

pub written_bad : (want : Sort) (s : Sofar) (ws : List Word) (f : ℕ) → length s.nodes ≤ 512 → Bad f ≡ up_to 65535 3 ws → Bad f ≡ written want s ws
written_bad want s ws f small = past (numeral ws)
  where
    large : (k : ℕ) (r : List Word) (t : Bool) → leb k 65535 ≡ t → Bad f ≡ check t 3 k r → Bad f ≡ check (fitting want s.nodes k) 3 k r
    large k r true h e = let z : ◌≡◌ {A = ℕ} 0 1 = cc in absurd (omega arith)
    large k r false h e = e ∙ ap (λ t. check t 3 k r) (fitting_past want s.nodes k (omega (arith, leb-false k 65535 h)))

    past : (g : Got ℕ) → Bad f ≡ and_then g (λ x r. check (leb x 65535) 3 x r) → Bad f ≡ and_then g (λ k r. check (fitting want s.nodes k) 3 k r)
    past (Read k r) e = large k r (leb k 65535) refl e
    past (Bad n) e = e
