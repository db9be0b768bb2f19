-- The answer of a test, and on how many fields it rests, in one byte: `no`, resting on the fields below n, is n, and `yes` is 255 - n.
-- So `both` is the smaller byte, `either` the larger, and `not` is 255 less the byte.
--   says_yes e, level_of e    the answer and the number of fields
--   is_byte y v f x          where the field f, which was y at first, is v now and x is asked for
--   Tells e t p q           e tells of q, which came of p, whether it passes the test t, and so does every packet that came in the
--                           same way of one that agrees with p on so many fields
use Rattle.std.specs.Prelude.{◌≡◌, ℕ, ◌+◌, ◌-◌, min, Bool, cond, ◌==◌, nat_le}
use Rattle.packet.specs.Packet.{Packet}
use Rattle.packet.specs.Policy.{Test, holds}
use Rattle.levels.specs.Like.{Like, Agree}

abbrev pub says_yes : ℕ → Bool
says_yes e = nat_le 128 e

abbrev pub level_of : ℕ → ℕ
level_of e = min e (255 - e)

-- a field that a put has set rests on nothing
abbrev pub field_level : ℕ → ℕ → ℕ → ℕ
field_level y v f = cond (v == y) (f + 1) 0

abbrev pub is_byte : ℕ → ℕ → ℕ → ℕ → ℕ
is_byte y v f x = cond (v == x) (255 - field_level y v f) (field_level y v f)

abbrev pub TestRests : Test → ℕ → Packet → Packet → Type 0
TestRests t n p q = (r s : Packet) → Agree n p r → Like p r q s → holds t s ≡ holds t q

abbrev pub Tells : ℕ → Test → Packet → Packet → Type 0
Tells e t p q = (says_yes e ≡ holds t q) × TestRests t (level_of e) p q
