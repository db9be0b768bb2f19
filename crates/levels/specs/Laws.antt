-- What it means that something rests on the first fields: leaves that agree on them are alike, and one rule stands for them.
use Rattle.std.specs.Prelude.{◌≡◌, ℕ, false, List}
use Rattle.std.specs.List.{AllByRecursion}
use Rattle.packet.specs.Policy.{Policy, overfull}
use Rattle.packet.specs.Table.{Want}
use Rattle.prescribed.specs.Table.{sample, leaf}
use Rattle.levels.specs.Like.{Agree}
use Rattle.levels.specs.Rests.{Clear, Rests}
use Rattle.levels.specs.Cut.{Beyond, OneRule}

-- a leaf that agrees on those fields has the same outs, and no policy has too many copies there either
abbrev pub LeavesAlike : Type 0
LeavesAlike =
    (ws : List Want) (a : Policy) (n : ℕ) (known more : List Want) → Clear ws a (sample a known) → Clear ws a (sample a more) →
    Rests ws a n (sample a known) (sample a known) → overfull a (sample a known) ≡ false → Agree n (sample a known) (sample a more) →
    ((leaf a more).outs ≡ (leaf a known).outs) × (overfull a (sample a more) ≡ false)

-- where the pairs that are left ask for none of those fields, the table is the leaf's rule
abbrev pub OneRuleBelow : Type 0
OneRuleBelow =
    (ws : List Want) (a : Policy) (n : ℕ) (rest known : List Want) → Clear ws a (sample a known) →
    Rests ws a n (sample a known) (sample a known) → overfull a (sample a known) ≡ false → AllByRecursion (Beyond ws n) rest →
    OneRule a rest known (leaf a known)
