-- What is left to read gives the same as all did.
use Rattle.std.proofs.Common.{◌≡◌, ◌-◌}
use Rattle.octets.specs.Readers.{rest}
use Rattle.plan.specs.Changes as spec
use Rattle.plan.specs.Views.{slots_of}
use Rattle.plan.proofs.change.reads.texts.Given as goal

abbrev pub invariant-loop-i : goal.invariant-loop-i
invariant-loop-i l = spec.texts (l.switches - l._i) (slots_of l.builder) (rest l.c) ≡ spec.texts l.switches (slots_of l.initial.builder) (rest l.initial.c)
