use Rattle.std.proofs.Common.{◌≡◌, ◌-◌, [], length}
use Rattle.octets.specs.Readers.{rest}
use Rattle.text.specs.Format.{nodes}
use Rattle.text.specs.Texts.{drafted}
use Rattle.text.proofs.format.reads.nodes.Given as goal

abbrev pub invariant-loop-i : goal.invariant-loop-i
invariant-loop-i l =
    (length (drafted l.draft) ≡ l._i)
    × (nodes (l.count - l._i) (drafted l.draft) (rest l.c) ≡ nodes l.count [] (rest l.initial.c))
