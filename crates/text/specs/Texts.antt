-- The nodes of a text, and what is left of a draft after each call.
use Rattle.std.specs.Prelude.{◌≡◌, Bool, ◌&&◌, List, [], ◌∷◌, ◌++◌, length, vec_items, MatchBool, Option, MatchOption, nat_lt}
use Rattle.text.specs.declared.node.Node.{Node}
use Rattle.text.specs.declared.texts.Text.{Text}
use Rattle.text.specs.declared.texts.Draft.{Draft}
use Rattle.text.specs.declared.texts.Assigned.{Assigned}
use Rattle.text.specs.Nodes.{fits}
use Rattle.text.specs.Format.{Assignment}

abbrev pub nodes_of : Text → List Node
nodes_of t = vec_items t.nodes

abbrev pub assignment_of : Assigned → Assignment
assignment_of a = record { switch = a.switch; nodes = nodes_of a.text }

abbrev pub drafted : Draft → List Node
drafted d = vec_items d.nodes

-- a node is added exactly where it fits and there are fewer than 512; else nothing changes
abbrev pub Added : Node → List Node → Bool → List Node → Type 0
Added n before r after = (r ≡ (nat_lt (length before) 512 && fits before n)) × MatchBool r (after ≡ before ++ n ∷ []) (after ≡ before)

abbrev pub Finished : List Node → Option Text → Type 0
Finished ns r = MatchOption r (ns ≡ []) (λ t. nodes_of t ≡ ns)
