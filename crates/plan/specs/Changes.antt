-- The bytes of a change: 66, then texts until the bytes end, in any order of the switches.
--   texts k slots bs    where k switches still lack a text
--   change n bs         the texts of n switches, or the number of the first fault
--   change_bytes ts      a change that brings these texts, in the order of the switches
use Rattle.std.specs.Prelude.{ℕ, zero, suc, List, [], ◌∷◌, ◌++◌, replicate, None}
use Rattle.octets.specs.Parse.{Got, Read, Bad, and_then, byte, kind}
use Rattle.text.specs.declared.node.Node.{Node}
use Rattle.text.specs.Format.{listed, text_bytes}
use Rattle.plan.specs.Slots.{Slots, line, finished}

abbrev pub text : Slots → List ℕ → Got Slots
text slots bs = and_then (byte bs) (λ i r. line slots i listed r)

abbrev pub at_end : List ℕ → Got Slots → Got Slots → Got Slots
at_end [] here on = here
at_end (b ∷ bs) here on = on

-- once every switch has its text, whatever follows is for a switch that has one, or for none
abbrev pub texts : ℕ → Slots → List ℕ → Got Slots
texts zero slots bs = at_end bs (Read slots bs) (Bad 2)
texts (suc k) slots bs = at_end bs (Read slots bs) (and_then (text slots bs) (texts k))

abbrev pub change : ℕ → List ℕ → Got (List (List Node))
change n bs =
    and_then (kind 66 bs) (λ k r.
    and_then (texts n (replicate n None) r) finished)

-- of the switches from i on
abbrev pub texts_bytes : ℕ → List (List Node) → List ℕ
texts_bytes i [] = []
texts_bytes i (ns ∷ rest) = text_bytes i ns ++ texts_bytes (suc i) rest

abbrev pub change_bytes : List (List Node) → List ℕ
change_bytes ts = 66 ∷ texts_bytes 0 ts
