-- The bytes of orders and answers: kind, version, round, switch.
use Rattle.std.specs.Prelude.{ℕ, ◌+◌, ◌-◌, cond, ◌&&◌, List, [], ◌∷◌, ◌++◌, ◌==◌, nat_le}
use Rattle.octets.specs.Parse.{Got, Read, Bad, and_then, byte, word, word_bytes}
use Rattle.wire.specs.declared.order.Order.{Order}
use Rattle.wire.specs.declared.order.Order.TheVariants.{Install, Stamp, Round, Remove}
use Rattle.wire.specs.declared.order.Kind.{Kind}
use Rattle.wire.specs.declared.order.Kind.TheVariants as kinds
use Rattle.wire.specs.declared.order.Message.{Message}
use Rattle.wire.specs.declared.order.Message.TheVariants.{Ask, Answer}
use Rattle.wire.specs.declared.order.Letter.{Letter}
use Rattle.octets.specs.Parse.{between, below}

-- the kinds of orders, from 0
abbrev pub number : Kind → ℕ
number kinds.Install = 0
number kinds.Stamp = 1
number kinds.Round = 2
number kinds.Remove = 3

abbrev pub kind_of : Order → ℕ
kind_of (Install v) = 0
kind_of (Stamp v) = 1
kind_of (Round v m) = 2
kind_of (Remove v) = 3

abbrev pub version_of : Order → ℕ
version_of (Install v) = v
version_of (Stamp v) = v
version_of (Round v m) = v
version_of (Remove v) = v

abbrev pub round_of : Order → ℕ
round_of (Install v) = 0
round_of (Stamp v) = 0
round_of (Round v m) = m
round_of (Remove v) = 0

abbrev pub order_of : ℕ → ℕ → ℕ → Order
order_of k v m = cond (k == 0) (Install v) (cond (k == 1) (Stamp v) (cond (k == 2) (Round v m) (Remove v)))

-- Reading, in a net of n switches and h hops. k is the kind from 0. The round is 1 to h for a round, and 0 otherwise.
abbrev pub round_for : ℕ → ℕ → List ℕ → Got ℕ
round_for h k bs = cond (k == 2) (between 1 h bs) (between 0 0 bs)

abbrev pub order : ℕ → ℕ → ℕ → List ℕ → Got (Order × ℕ)
order n h k bs =
    and_then (word bs) (λ v r.
    and_then (round_for h k r) (λ m q.
    and_then (below n q) (λ i p. Read (order_of k v m, i) p)))

abbrev pub sent : (Order → Message) → Order × ℕ → Letter
sent make o = record { message = make o.0; switch = o.1 }

abbrev pub of_kind : ℕ → ℕ → ℕ → List ℕ → Got Letter
of_kind n h k bs =
    cond (nat_le 16 k && nat_le k 19) (and_then (order n h (k - 16) bs) (λ o r. Read (sent Ask o) r))
    (cond (nat_le 48 k && nat_le k 51) (and_then (order n h (k - 48) bs) (λ o r. Read (sent Answer o) r))
    (Bad 1))

abbrev pub letter : ℕ → ℕ → List ℕ → Got Letter
letter n h bs = and_then (byte bs) (of_kind n h)

-- Writing.
abbrev pub order_in : Message → Order
order_in (Ask o) = o
order_in (Answer o) = o

abbrev pub kind_byte : Message → ℕ
kind_byte (Ask o) = 16 + kind_of o
kind_byte (Answer o) = 48 + kind_of o

abbrev pub order_bytes : Order → ℕ → List ℕ
order_bytes o i = word_bytes (version_of o) ++ round_of o ∷ (i ∷ [])

abbrev pub letter_bytes : Letter → List ℕ
letter_bytes l = kind_byte l.message ∷ order_bytes (order_in l.message) l.switch
