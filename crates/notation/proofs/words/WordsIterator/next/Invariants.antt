use Rattle.std.proofs.Common.{◌≡◌, length}
use Rattle.notation.specs.Words.{left, unblanked}
use Rattle.notation.proofs.words.WordsIterator.next.Given as goal

abbrev pub invariant-loop-word : goal.invariant-loop-word
invariant-loop-word l = (left l.initial.self ≡ left l.self) × (unblanked l.initial.self.bytes.now ≡ unblanked l.self.bytes.now)

abbrev pub decreases-loop-word : goal.decreases-loop-word
decreases-loop-word l = length l.self.bytes.now
