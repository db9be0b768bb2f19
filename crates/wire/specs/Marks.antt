-- The bytes of a mark: 65, version, round.
use Rattle.std.specs.Prelude.{ℕ, List, [], ◌∷◌, ◌++◌}
use Rattle.octets.specs.Parse.{Got, Read, and_then, word, word_bytes}
use Rattle.wire.specs.declared.mark.Mark.{Mark}
use Rattle.octets.specs.Parse.{kind, between}

-- in a net of h hops
abbrev pub mark : ℕ → List ℕ → Got Mark
mark h bs =
    and_then (kind 65 bs) (λ k r.
    and_then (word r) (λ v q.
    and_then (between 1 h q) (λ m p. Read (record { version = v; round = m }) p)))

abbrev pub mark_bytes : Mark → List ℕ
mark_bytes m = 65 ∷ (word_bytes m.version ++ m.round ∷ [])
