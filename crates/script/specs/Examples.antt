-- A few lines and headers, as they read.
use Rattle.std.specs.Prelude.{◌≡◌, [], ◌∷◌, ◌++◌, Some, codes}
use Rattle.notation.specs.Reading.{Read, Bad}
use Rattle.script.specs.declared.step.Named.TheVariants.{Round}
use Rattle.script.specs.Steps.{Order, RawDesk}
use Rattle.script.specs.Lines.{Nothing, Plays, line_in}
use Rattle.script.specs.Scripts.{Refused, Unfinished, header_in}

pub record Examples : Type 0 where
  pub blank : line_in (codes "  # nothing") ≡ Read Nothing []
  pub round : line_in (codes "order round 1 2 3 # late") ≡ Read (Plays (Order (Round 1 2) 3)) []
  pub raw : line_in (codes "raw desk 0aFf") ≡ Read (Plays (RawDesk (10 ∷ (255 ∷ [])))) []
  pub odd : line_in (codes "raw desk 0aF") ≡ Bad 1
  pub further : line_in (codes "show all") ≡ Bad 1
  pub range : header_in (codes "net 25") ≡ Refused 2 (Some 1)
  pub itself : header_in (codes "net 2 3 1" ++ (10 ∷ codes "cable 0 1 0 1 9")) ≡ Refused 4 (Some 2)
  pub unended : header_in (codes "net 2 3 1" ++ (10 ∷ codes "outside 0 0")) ≡ Unfinished
