-- The prescribed table gives every packet the copies that the policy gives it.
use Rattle.std.specs.Prelude.{◌≡◌, List}
use mathlib.Core.List.{Memᴰ}
use Rattle.packet.specs.Policy.{Policy}
use Rattle.packet.specs.Table.{Want, Setting, set_all, Right}
use Rattle.prescribed.specs.Table.{sample, leaf, table_of}

abbrev pub AlwaysRight : Type 0
AlwaysRight = (a : Policy) → Right a (table_of a)

-- different outs of a leaf give different copies of its sample
abbrev pub OutsDiffer : Type 0
OutsDiffer =
    (a : Policy) (known : List Want) (o n : List Setting) → Memᴰ o (leaf a known).outs → Memᴰ n (leaf a known).outs →
    set_all o (sample a known) ≡ set_all n (sample a known) → o ≡ n
