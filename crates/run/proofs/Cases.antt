-- The worked cases hold.
use Rattle.std.proofs.Common.{◌≡◌, ℕ, ◌<◌, cond, not, ◌&&◌, T, ltb, leb, List, [], ◌∷◌, sym, refl, ap, subst, arith, leb→le, nltb→le, T_not}
use Rattle.packet.specs.Packet.{once, others, is_in}
use Rattle.packet.specs.Policy.{holds, copies, each}
use Rattle.packet.specs.Table.{Table, outputs, decided, meets_all, set_all}
use Rattle.prescribed.specs.Order.{insert, rising, less_out}
use Rattle.prescribed.specs.Table.{tested, tested_in, put_in, names, free_from, knowing, changes, is_known, drop_field, without, same_list, table_from, trim}
use Rattle.run.specs.Net.{Wire}
use Rattle.run.specs.Order.{Install, Installed}
use Rattle.run.specs.Switch.{Switch, Message, Reply, Turn, knows, table_of, install, pass_all, take_order}
use Rattle.run.specs.Cases.{OneRule, Barred, TwoOuts, Unmarked, TooLate, CasesHold}
use Rattle.run.proofs.Lists.{by_test, and_l}
use Rattle.run.proofs.Held.{knows_removed}
use Rattle.run.proofs.Switches.{floor_up}
use Rattle.run.proofs.NoHops.{no_hops}
use Rattle.run.proofs.Course.{through}

unmarked : Unmarked
unfolding once others outputs decided meets_all set_all knows table_of pass_all
unmarked = record { before = refl; after = refl }

-- an install below the floor of a version that is not there
too_low : (n : ℕ) (wire : ℕ → Wire) (v : ℕ) (t : Table) (x : Switch) → v < x.floor → T (not (knows v x.held)) → take_order n wire (Install v t) x ≡ record { after = x; sends = [] }
too_low n wire v t x l k = subst (λ (y : Switch). turn y ≡ turn_none) (sym same) (ap (λ (ms : List Message). record { after = x; sends = ms }) none)
  where
    turn : Switch → Turn
    turn y = record { after = y; sends = cond (knows v y.held) (Reply (Installed v) ∷ []) [] }

    turn_none : Turn
    turn_none = record { after = x; sends = [] }

    same : install v t x ≡ x
    same = by_test (λ (y : Switch). y ≡ x) (leb x.floor v && not (knows v x.held)) (λ b. let z = leb→le x.floor v (and_l (leb x.floor v) (not (knows v x.held)) b) in absurd (omega arith)) (λ _. refl)

    none : cond (knows v x.held) (Reply (Installed v) ∷ []) [] ≡ []
    none = by_test (λ (ms : List Message). ms ≡ []) (knows v x.held) (λ b. absurd (T_not (knows v x.held) k b)) (λ _. refl)

too_late : TooLate
too_late n wire t x l = by_test (λ (y : Switch). take_order n wire (Install 1 t) y ≡ record { after = y; sends = [] }) (ltb 1 x.stamp)
    (λ _. too_low n wire 1 t _ (floor_up x.floor 1).1 (knows_removed 1 x.held))
    (λ b. let z = nltb→le 1 x.stamp b in absurd (omega arith))

-- the tables are worked out
one_rule : OneRule
unfolding insert rising less_out tested tested_in put_in names free_from knowing changes is_known drop_field without same_list table_from trim others once is_in holds each copies
one_rule = refl

barred : Barred
unfolding insert rising less_out tested tested_in put_in names free_from knowing changes is_known drop_field without same_list table_from trim others once is_in holds each copies
barred = refl

two_outs : TwoOuts
unfolding insert rising less_out tested tested_in put_in names free_from knowing changes is_known drop_field without same_list table_from trim others once is_in holds each copies
two_outs = (refl, refl)

pub cases_hold : CasesHold
cases_hold = (one_rule, (barred, (two_outs, (through, (unmarked, (too_late, (no_hops, tt)))))))
