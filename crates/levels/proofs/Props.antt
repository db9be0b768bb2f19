-- That something rests on so many fields holds in one way only.
use Rattle.std.proofs.Common.{◌≡◌, ℕ, Bool, List, [], ◌∷◌, refl}
use base.Stored.{coded_ℕ, coded_bool, coded_list}
use denote.Struct.Props.{≡_prop}
use Rattle.std.specs.List.{AllZip}
use Rattle.packet.specs.Packet.{Packet}
use Rattle.packet.specs.Policy.{Test, Policy, copies}
use Rattle.packet.specs.Table.{Want}
use Rattle.levels.specs.Like.{Like}
use Rattle.levels.specs.Bytes.{level_of, Tells}
use Rattle.levels.specs.Rests.{Rests, Dies}

bools : (x y : Bool) → IsProp (x ≡ y)
bools = ≡_prop coded_bool

numbers : (x y : ℕ) → IsProp (x ≡ y)
numbers = ≡_prop coded_ℕ

like_prop : (p r q s : Packet) → IsProp (Like p r q s)
like_prop p r q s x y i = record {
  eight = (numbers _ _ x.eight.0 y.eight.0 i, numbers _ _ x.eight.1 y.eight.1 i);
  at = λ f. (bools _ _ (x.at f).0 (y.at f).0 i, λ h. numbers _ _ ((x.at f).1 h) ((y.at f).1 h) i);
}

each_prop : (p r : Packet) (qs ss : List Packet) → IsProp (AllZip (Like p r) qs ss)
each_prop p r [] [] x y = refl
each_prop p r [] (s ∷ ss) x y = absurd x
each_prop p r (q ∷ qs) [] x y = absurd x
each_prop p r (q ∷ qs) (s ∷ ss) x y = λ i. (like_prop p r q s x.0 y.0 i, each_prop p r qs ss x.1 y.1 i)

pub rests_prop : (ws : List Want) (a : Policy) (n : ℕ) (p q : Packet) → IsProp (Rests ws a n p q)
rests_prop ws a n p q x y i r s agree c d k =
    let one = x r s agree c d k in
    let two = y r s agree c d k in
    record { each = each_prop p r (copies a q) (copies a s) one.each two.each i; full = bools _ _ one.full two.full i }

pub tells_prop : (e : ℕ) (t : Test) (p q : Packet) → IsProp (Tells e t p q)
tells_prop e t p q x y i = (bools _ _ x.0 y.0 i, λ r s agree k. bools _ _ (x.1 r s agree k) (y.1 r s agree k) i)

pub dies_prop : (ws : List Want) (e : ℕ) (a : Policy) (p q : Packet) → IsProp (Dies ws e a p q)
dies_prop ws e a p q x y i no_e =
    let one = x no_e in
    let two = y no_e in
    record {
      none = ≡_prop (coded_list (coded_list coded_ℕ)) _ _ one.none two.none i;
      few = bools _ _ one.few two.few i;
      rests = rests_prop ws a (level_of e) p q one.rests two.rests i;
    }
