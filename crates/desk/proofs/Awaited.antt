-- An answer is awaited just where the desk's order is the one that it answers.
use Rattle.std.proofs.Common.{◌≡◌, Bool, List, [], ◌∷◌, Some, None, Decides, Option, sym, refl, ap, ◌∙◌}
use Rattle.std.proofs.lemmas.Bool.Decides.{Decides-like}
use Rattle.packet.specs.Table.{Table}
use Rattle.run.specs.Order as run
use Rattle.run.specs.Desk.{Desk, orders_of}
use Rattle.wire.specs.declared.order.Order.{Order}
use Rattle.wire.specs.declared.order.Order.TheVariants.{Install, Stamp, Round, Remove}
use Rattle.desk.specs.Model.{Awaits, listed}

first_of : List run.Order → Option Order
first_of [] = None
first_of (run.Install v t ∷ os) = Some (Install v)
first_of (run.Stamp v ∷ os) = Some (Stamp v)
first_of (run.Round v r ∷ os) = Some (Round v r)
first_of (run.Remove v ∷ os) = Some (Remove v)

first_listed : (o : Option Order) → first_of (listed [] o) ≡ o
unfolding first_of
first_listed None = refl
first_listed (Some (Install v)) = refl
first_listed (Some (Stamp v)) = refl
first_listed (Some (Round v r)) = refl
first_listed (Some (Remove v)) = refl

-- o: the desk's order
pub decides_awaits : (d : Desk) (o : Option Order) (answer : Order) (b : Bool) → ((t : Table) → listed t o ≡ orders_of d t) → Decides b (o ≡ Some answer) → Decides b (Awaits d answer)
decides_awaits d o answer b gives says =
    Decides-like b
    (λ e t. sym (gives t) ∙ ap (listed t) e)
    (λ a. sym (first_listed o) ∙ ap first_of (gives [] ∙ a []) ∙ first_listed (Some answer))
    says
