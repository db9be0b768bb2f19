-- Reading the words of a step. Its numbers are decimal and as typed, one that no type holds as the largest that its type has.
use Rattle.std.specs.Prelude.{ℕ, zero, suc, ◌+◌, ◌-◌, ◌*◌, cond, ◌&&◌, List, [], ◌∷◌, ◌++◌, Some, None, vec_items, Option, nat_le}
use Rattle.notation.specs.Numbers.{number_of, capped}
use Rattle.notation.specs.Words.{Word}
use Rattle.notation.specs.Reading.{Got, Read, Bad, and_then, or_form}
use Rattle.script.specs.declared.step.Named.{Named}
use Rattle.script.specs.declared.step.Named.TheVariants as named
use Rattle.script.specs.declared.step.Step as declared
use Rattle.script.specs.declared.step.Step.TheVariants as step
use Rattle.script.specs.declared.step.verbs.Verb.{Verb}
use Rattle.script.specs.declared.step.verbs.Verb.TheVariants as verb
use Rattle.wire.specs.declared.order.Kind.{Kind}
use Rattle.wire.specs.declared.order.Kind.TheVariants as kind
use Rattle.script.specs.declared.step.verbs.Target.{Target}
use Rattle.script.specs.declared.step.verbs.Target.TheVariants as target
use Rattle.script.specs.Verbs.{order_kind_of, target_of}

-- a step, with the bytes that it brings as a list
pub data Step : Type 0 where
  Change : Step
  Enter : ℕ → List ℕ → Step
  Arrive : ℕ → ℕ → Step
  Lose : ℕ → ℕ → Step
  Order : Named → ℕ → Step
  Answer : Named → ℕ → Step
  RawSwitch : ℕ → List ℕ → Step
  RawDesk : List ℕ → Step
  Show : Step

abbrev pub step_of : declared.Step → Step
step_of step.Change = Change
step_of (step.Enter switch fields) = Enter switch fields
step_of (step.Arrive switch port) = Arrive switch port
step_of (step.Lose switch port) = Lose switch port
step_of (step.Order order switch) = Order order switch
step_of (step.Answer order switch) = Answer order switch
step_of (step.RawSwitch switch bytes) = RawSwitch switch (vec_items bytes)
step_of (step.RawDesk bytes) = RawDesk (vec_items bytes)
step_of step.Show = Show

-- the next word is a number
abbrev pub typed : List Word → Got ℕ
typed [] = Bad 1
typed (w ∷ ws) = or_form (capped (number_of w)) ws

-- k numbers more, behind those of xs
abbrev pub numbers : ℕ → List ℕ → List Word → Got (List ℕ)
numbers zero xs ws = Read xs ws
numbers (suc k) xs ws = and_then (typed ws) (λ x r. numbers k (xs ++ x ∷ []) r)

-- two numbers
abbrev pub pair : {X : Type 0} → (ℕ → ℕ → X) → List Word → Got X
pair make ws = and_then (typed ws) (λ a r. and_then (typed r) (λ b q. Read (make a b) q))

-- the next word, as something that it names
abbrev pub or_bad : {X : Type 0} → Option X → List Word → Got X
or_bad None ws = Bad 1
or_bad (Some x) ws = Read x ws

abbrev pub called : {X : Type 0} → (Word → Option X) → List Word → Got X
called reads [] = Bad 1
called reads (w ∷ ws) = or_bad (reads w) ws

-- an order: its word, its version, and for a round its round
abbrev pub of_order : Kind → List Word → Got Named
of_order kind.Install ws = and_then (typed ws) (λ v r. Read (named.Install v) r)
of_order kind.Stamp ws = and_then (typed ws) (λ v r. Read (named.Stamp v) r)
of_order kind.Round ws = pair named.Round ws
of_order kind.Remove ws = and_then (typed ws) (λ v r. Read (named.Remove v) r)

abbrev pub ordered : List Word → Got Named
ordered ws = and_then (called order_kind_of ws) of_order

-- an order and its switch
abbrev pub directed : {X : Type 0} → (Named → ℕ → X) → List Word → Got X
directed make ws = and_then (ordered ws) (λ o r. and_then (typed r) (λ i q. Read (make o i) q))

-- bytes: two hexadecimal digits for each, in either case
abbrev pub hex_digit : ℕ → Option ℕ
hex_digit b =
    cond (nat_le 48 b && nat_le b 57) (Some (b - 48))
    (cond (nat_le 97 b && nat_le b 102) (Some (b - 87))
    (cond (nat_le 65 b && nat_le b 70) (Some (b - 55)) None))

-- both digits, or none
abbrev pub hex_byte : Option ℕ → Option ℕ → Option ℕ
hex_byte None y = None
hex_byte (Some x) None = None
hex_byte (Some x) (Some y) = Some (x * 16 + y)

abbrev pub onward : Option ℕ → (ℕ → Option (List ℕ)) → Option (List ℕ)
onward None f = None
onward (Some x) f = f x

-- the bytes that digits go on to write, behind those of xs
unfoldable pub hex_on : List ℕ → List ℕ → Option (List ℕ)
hex_on xs [] = Some xs
hex_on xs (a ∷ []) = None
hex_on xs (a ∷ (b ∷ ds)) = onward (hex_byte (hex_digit a) (hex_digit b)) (λ x. hex_on (xs ++ x ∷ []) ds)

abbrev pub hex_of : Word → Option (List ℕ)
hex_of w = hex_on [] w

abbrev pub of_target : Target → List Word → Got Step
of_target target.Switch ws = and_then (typed ws) (λ i r. and_then (called hex_of r) (λ bs q. Read (RawSwitch i bs) q))
of_target target.Desk ws = and_then (called hex_of ws) (λ bs q. Read (RawDesk bs) q)

-- the words behind the first one
abbrev pub of_verb : Verb → List Word → Got Step
of_verb verb.Change ws = Read Change ws
of_verb verb.Enter ws = and_then (typed ws) (λ i r. and_then (numbers 8 [] r) (λ fs q. Read (Enter i fs) q))
of_verb verb.Arrive ws = pair Arrive ws
of_verb verb.Lose ws = pair Lose ws
of_verb verb.Order ws = directed Order ws
of_verb verb.Answer ws = directed Answer ws
of_verb verb.Raw ws = and_then (called target_of ws) of_target
of_verb verb.Show ws = Read Show ws
