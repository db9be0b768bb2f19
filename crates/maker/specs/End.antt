-- Walking over the words of a rule, and where the table ends behind which no rule has outs.
use Rattle.std.specs.Prelude.{◌≡◌, ℕ, zero, suc, ◌*◌, cond, List, [], ◌∷◌, length, drop, Some, None, Option, nat_le}
use Rattle.std.specs.Borrow.{Bor}
use Rattle.packet.specs.Table.{Table}
use Rattle.prescribed.specs.Table.{trim}
use Rattle.table.specs.Words.{encode}
use Rattle.maker.specs.declared.size.Size.{Size}

-- the words behind the first n, if there are so many
abbrev pub skip : ℕ → List ℕ → Option (List ℕ)
skip n ws = cond (nat_le n (length ws)) (Some (drop n ws)) None

abbrev pub on_rest : {A : Type 0} → Option (List ℕ) → (List ℕ → Option A) → Option A
on_rest None f = None
on_rest (Some ws) f = f ws

-- behind k outs
abbrev pub out_after : List ℕ → Option (List ℕ)
out_after [] = None
out_after (c ∷ ws) = skip (2 * c) ws

abbrev pub outs_after : ℕ → List ℕ → Option (List ℕ)
outs_after zero ws = Some ws
outs_after (suc k) ws = on_rest (out_after ws) (outs_after k)

-- the number of the outs, and what is behind them
abbrev pub counted_after : List ℕ → Option (ℕ × List ℕ)
counted_after [] = None
counted_after (k ∷ ws) = on_rest (outs_after k ws) (λ rest. Some (k, rest))

-- the same of a rule
abbrev pub rule_after : List ℕ → Option (ℕ × List ℕ)
rule_after [] = None
rule_after (w ∷ ws) = on_rest (skip (2 * w) ws) counted_after

abbrev pub rest_of : Option (Bor (List ℕ)) → Option (List ℕ)
rest_of None = None
rest_of (Some ws) = Some ws.now

abbrev pub after_of : Option (ℕ × Bor (List ℕ)) → Option (ℕ × List ℕ)
after_of None = None
after_of (Some p) = Some (p.0, p.1.now)

-- so many words and rules are left of a table when the rules behind the last one with outs are left out
abbrev pub Ended : Table → Size → Type 0
Ended t z = (z.words ≡ length (encode (trim t))) × (z.rules ≡ length (trim t))
