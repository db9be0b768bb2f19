-- The words that begin a step, those that name an order, and whom raw bytes reach.
use Rattle.std.specs.Prelude.{ℕ, cond, List, Some, None, codes, Option}
use Rattle.notation.specs.Kinds.{same_word}
use Rattle.script.specs.declared.step.verbs.Verb.{Verb}
use Rattle.script.specs.declared.step.verbs.Verb.TheVariants.{Change, Enter, Arrive, Lose, Order, Answer, Raw, Show}
use Rattle.wire.specs.declared.order.Kind.{Kind}
use Rattle.wire.specs.declared.order.Kind.TheVariants.{Install, Stamp, Round, Remove}
use Rattle.script.specs.declared.step.verbs.Target.{Target}
use Rattle.script.specs.declared.step.verbs.Target.TheVariants.{Switch, Desk}

abbrev pub verb_word : Verb → List ℕ
verb_word Change = codes "change"
verb_word Enter = codes "enter"
verb_word Arrive = codes "arrive"
verb_word Lose = codes "lose"
verb_word Order = codes "order"
verb_word Answer = codes "answer"
verb_word Raw = codes "raw"
verb_word Show = codes "show"

abbrev pub order_word : Kind → List ℕ
order_word Install = codes "install"
order_word Stamp = codes "stamp"
order_word Round = codes "round"
order_word Remove = codes "remove"

abbrev pub target_word : Target → List ℕ
target_word Switch = codes "switch"
target_word Desk = codes "desk"

-- x, if the word is its word; else what the others give
abbrev pub or_else : {X : Type 0} → (X → List ℕ) → List ℕ → X → Option X → Option X
or_else named w x other = cond (same_word w (named x)) (Some x) other

abbrev pub verb_of : List ℕ → Option Verb
verb_of w =
    or_else verb_word w Change
    (or_else verb_word w Enter
    (or_else verb_word w Arrive
    (or_else verb_word w Lose
    (or_else verb_word w Order
    (or_else verb_word w Answer
    (or_else verb_word w Raw
    (or_else verb_word w Show None)))))))

abbrev pub order_kind_of : List ℕ → Option Kind
order_kind_of w =
    or_else order_word w Install
    (or_else order_word w Stamp
    (or_else order_word w Round
    (or_else order_word w Remove None)))

abbrev pub target_of : List ℕ → Option Target
target_of w = or_else target_word w Switch (or_else target_word w Desk None)
