-- Reading the bytes of a table. Each number is tested as soon as it is read.
use Rattle.std.specs.Prelude.{ℕ, zero, suc, List, [], ◌∷◌, ◌++◌, nat_le}
use Rattle.octets.specs.Parse.{Got, Read, and_then, check, byte, word, below, ended}
use Rattle.packet.specs.Table.{Want, Setting, Rule, Table}

abbrev pub field : List ℕ → Got ℕ
field bs = below 8 bs

abbrev pub want : List ℕ → Got Want
want bs = and_then (field bs) (λ f r. and_then (word r) (λ x q. Read (record { at = f; value = x }) q))

abbrev pub setting : List ℕ → Got Setting
setting bs = and_then (field bs) (λ f r. and_then (word r) (λ x q. Read (record { at = f; value = x }) q))

-- k things more, behind the things xs
abbrev pub more : {A : Type 0} → (List ℕ → Got A) → ℕ → List A → List ℕ → Got (List A)
more one zero xs bs = Read xs bs
more one (suc k) xs bs = and_then (one bs) (λ x r. more one k (xs ++ x ∷ []) r)

-- a number, which is at most `most` or else the fault, and so many things
abbrev pub counted : {A : Type 0} → (List ℕ → Got ℕ) → ℕ → ℕ → (List ℕ → Got A) → List ℕ → Got (List A)
counted number most fault one bs = and_then (number bs) (λ k r. and_then (check (nat_le k most) fault k r) (λ m q. more one m [] q))

abbrev pub wants : List ℕ → Got (List Want)
wants bs = counted byte 8 2 want bs

abbrev pub out : List ℕ → Got (List Setting)
out bs = counted byte 8 2 setting bs

abbrev pub outs : List ℕ → Got (List (List Setting))
outs bs = counted byte 16 6 out bs

abbrev pub rule : List ℕ → Got Rule
rule bs = and_then (wants bs) (λ ws r. and_then (outs r) (λ os q. Read (record { wants = ws; outs = os }) q))

abbrev pub table : List ℕ → Got Table
table bs = counted word 2048 7 rule bs

-- a table that nothing follows
abbrev pub alone : List ℕ → Got Table
alone bs = and_then (table bs) ended
