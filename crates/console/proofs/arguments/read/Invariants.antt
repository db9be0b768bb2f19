use Rattle.std.proofs.Common.{◌≡◌, length, map, string_bytes}
use Rattle.console.specs.declared.input.Writing.TheVariants.{Notation}
use Rattle.console.specs.Words.{asked}
use Rattle.console.proofs.arguments.read.Given as goal

abbrev pub invariant-loop-files : goal.invariant-loop-files
invariant-loop-files l = asked l.may l.writing (map string_bytes l.files) ≡ asked l.may Notation (map string_bytes l.initial.files)

abbrev pub decreases-loop-files : goal.decreases-loop-files
decreases-loop-files l = length l.files
