-- On how many fields of a packet it rests what a policy does.
--   Clear ws a p       p has no value that the policy puts, but for those of the pairs ws
--   SameWay a p r q s  the policy does with q what it does with s: the copies came in the same way, one by one, and it has too many of both or of neither
--   Rests ws a n p q   what the policy does with q, which came of p, rests on the fields of p below n: it does the same with every packet that came in
--                      the same way of one that agrees with p on them
--   Dead ws a n p q    the policy has no copies of q, and that rests on the fields of p below n
--   Dies ws e a p q    where the byte e says no, it is so; where it says yes, nothing is known
use Rattle.std.specs.Prelude.{◌≡◌, ℕ, ◌<◌, false, List, [], ◌≢◌}
use mathlib.Core.List.{Memᴰ}
use Rattle.std.specs.List.{AllZip}
use Rattle.packet.specs.Packet.{Packet, field}
use Rattle.packet.specs.Policy.{Policy, copies, overfull}
use Rattle.packet.specs.Table.{Want}
use Rattle.prescribed.specs.Table.{put_in, names}
use Rattle.levels.specs.Like.{Like, Agree}
use Rattle.levels.specs.Bytes.{says_yes, level_of}

abbrev pub Clear : List Want → Policy → Packet → Type 0
Clear ws a p = (w : Want) → Memᴰ w (put_in a) → w.at < 8 → names w.at w.value ws ≡ false → w.value ≢ field w.at p

pub record SameWay (a : Policy) (p r q s : Packet) : Type 0 where
  pub each : AllZip (Like p r) (copies a q) (copies a s)
  pub full : overfull a q ≡ overfull a s

abbrev pub Rests : List Want → Policy → ℕ → Packet → Packet → Type 0
Rests ws a n p q = (r s : Packet) → Agree n p r → Clear ws a p → Clear ws a r → Like p r q s → SameWay a p r q s

pub record Dead (ws : List Want) (a : Policy) (n : ℕ) (p q : Packet) : Type 0 where
  pub none : copies a q ≡ []
  pub few : overfull a q ≡ false
  pub rests : Rests ws a n p q

abbrev pub Dies : List Want → ℕ → Policy → Packet → Packet → Type 0
Dies ws e a p q = says_yes e ≡ false → Dead ws a (level_of e) p q
