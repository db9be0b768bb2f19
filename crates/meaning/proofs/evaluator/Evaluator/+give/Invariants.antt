use Rattle.std.proofs.Common.{◌≡◌, ◌+◌, ◌*◌, false, take}
use Rattle.packet.specs.Packet.{once}
use Rattle.packet.specs.Policy.{each, copies, some, overfull}
use Rattle.packet.specs.Copies.{listing}
use Rattle.packet.specs.Listed.{fields_of}
use Rattle.text.specs.Texts.{nodes_of}
use Rattle.text.specs.Trees.{trees, policy_at}
use Rattle.meaning.specs.Evaluators.{text_of}
use Rattle.meaning.proofs.evaluator.Evaluator.+give.Given as goal

-- by the node's number, and for one number by who calls whom
abbrev pub decreases-give : goal.decreases-give
decreases-give l = 4 * l.k + 2

abbrev pub decreases-give_and : goal.decreases-give_and
decreases-give_and l = 4 * l.k + 1

abbrev pub decreases-give_then : goal.decreases-give_then
decreases-give_then l = 4 * l.k + 1

abbrev pub decreases-give_each : goal.decreases-give_each
decreases-give_each l = 4 * l.k + 3

abbrev pub invariant-give_each-loop-q : goal.invariant-give_each-loop-q
invariant-give_each-loop-q l =
    let a = policy_at (trees (nodes_of (text_of l.initial.self))) l.k in
    (text_of l.self ≡ text_of l.initial.self)
    × (listing l.all ≡ once (each (copies a) (fields_of (take l.q-index l.packets))))
    × (some (overfull a) (fields_of (take l.q-index l.packets)) ≡ false)
