-- What is promised of every plan.
--   GoodFor n a   for each of n switches the table gives the copies that the text says, and copies of packets are packets
--   ReadsBack     a change that was written reads as its texts
use Rattle.std.specs.Prelude.{◌≡◌, ℕ, ◌≤◌, true, List, [], ◌∷◌, length}
use Rattle.octets.specs.Parse.{Read}
use Rattle.text.specs.declared.node.Node.{Node}
use Rattle.text.specs.Nodes.{sound}
use Rattle.text.specs.Trees.{meaning}
use Rattle.prescribed.specs.Fit.{fault_of}
use Rattle.run.specs.Net.{Net, Plan, GoodPlan}
use Rattle.plan.specs.Changes.{change, change_bytes}

abbrev pub GoodFor : ℕ → Plan → Type 0
GoodFor n a = (w : Net) → w.switches ≡ n → GoodPlan w a

-- a text whose table can be made
pub record Fits (ns : List Node) : Type 0 where
  pub some : 1 ≤ length ns
  pub few : length ns ≤ 512
  pub sound : sound [] ns ≡ true
  pub fits : fault_of (meaning ns) ≡ 0

abbrev pub AllFit : List (List Node) → Type 0
AllFit [] = Unit {0}
AllFit (ns ∷ rest) = Fits ns × AllFit rest

abbrev pub ReadsBack : Type 0
ReadsBack = (ts : List (List Node)) → AllFit ts → change (length ts) (change_bytes ts) ≡ Read ts []
