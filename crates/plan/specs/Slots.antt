-- The texts that a plan is given, one by one. What reads the nodes of a text is left open: bytes or a line of a script.
--   free slots i        switch i is there and has no text yet
--   fitted ns bs        the nodes ns, if their table can be made; else why not
--   line slots i r bs   a text for switch i, whose nodes r reads off bs
--   finished slots bs   the texts in the order of the switches, if no switch lacks one
use Rattle.std.specs.Prelude.{ℕ, Bool, cond, not, ◌&&◌, List, [], ◌∷◌, length, is_some, Some, None, Option, ◌==◌, nat_lt, slice_index_or, slice_set}
use Rattle.std.specs.Option.{option_map}
use Rattle.octets.specs.Parse.{Got, Read, Bad, and_then, check}
use Rattle.text.specs.declared.node.Node.{Node}
use Rattle.text.specs.Trees.{meaning}
use Rattle.prescribed.specs.Fit.{fault_of}

-- a place for each switch, and its text where it has one
abbrev pub Slots : Type 0
Slots = List (Option (List Node))

abbrev pub free : Slots → ℕ → Bool
free slots i = nat_lt i (length slots) && not (is_some (slice_index_or slots i None))

abbrev pub placed : ℕ → List Node → Slots → Slots
placed i ns slots = slice_set slots i (Some ns)

abbrev pub fitted : List Node → List ℕ → Got (List Node)
fitted ns bs = cond (fault_of (meaning ns) == 0) (Read ns bs) (Bad (fault_of (meaning ns)))

abbrev pub line : Slots → ℕ → (List ℕ → Got (List Node)) → List ℕ → Got Slots
line slots i nodes bs =
    and_then (check (free slots i) 2 i bs) (λ j r.
    and_then (nodes r) (λ ns q.
    and_then (fitted ns q) (λ ms p. Read (placed j ms slots) p)))

abbrev pub consed : List Node → Option (List (List Node)) → Option (List (List Node))
consed ns texts = option_map (λ all. ns ∷ all) texts

-- no switch lacks a text
unfoldable pub whole : Slots → Option (List (List Node))
whole [] = Some []
whole (None ∷ slots) = None
whole (Some ns ∷ slots) = consed ns (whole slots)

abbrev pub given : Option (List (List Node)) → List ℕ → Got (List (List Node))
given None bs = Bad 2
given (Some texts) bs = Read texts bs

abbrev pub finished : Slots → List ℕ → Got (List (List Node))
finished slots bs = given (whole slots) bs
