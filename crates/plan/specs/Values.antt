-- Texts whose values a field can have.
use Rattle.std.specs.Prelude.{Bool, true, List, nat_lt}
use Rattle.std.specs.List.{list_all}
use Rattle.text.specs.declared.node.Node.{Node}
use Rattle.text.specs.declared.node.Node.TheVariants.{Always, Is, Both, Either, Not, Keep, Put, And, Then}

-- a value that is put has 16 bits
abbrev pub small : Node → Bool
small Always = true
small (Is f x) = true
small (Both a b) = true
small (Either a b) = true
small (Not a) = true
small (Keep a) = true
small (Put f x) = nat_lt x 65536
small (And a b) = true
small (Then a b) = true

abbrev pub all_small : List Node → Bool
all_small ns = list_all small ns
