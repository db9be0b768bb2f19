-- The worked change of the pair, from `over` to `seven`: its states, one after the other, and the step to each.
-- A state is computed from the one before it, and each step is a lemma of its own, so that no state is worked out inside a term of another.
use Rattle.std.proofs.Common.{◌≡◌, ℕ, zero, suc, ◌<◌, Bool, T, List, [], ◌∷◌, get_or, replicate, refl, subst, arith, lit<, lit≤}
use mathlib.Core.List.{Memᴰ}
use Rattle.packet.specs.Packet.{IsPacket, once, others}
use Rattle.packet.specs.Policy.{copies, each}
use Rattle.packet.specs.Table.{outputs, decided, meets_all, set_all, Right}
use Rattle.run.specs.Net.{GoodPlan, GoodNet, Cable}
use Rattle.run.specs.Order.{Order, Install, Stamp, Round, Remove}
use Rattle.run.specs.Switch.{mark_of, knows, table_of, marks_on, all_reach, pass_all}
use Rattle.run.specs.Desk.{Idle, Removing, heard, onwards, changed}
use Rattle.run.specs.Run.{Item, frame, mark, State, Step, enter, arrive, order, hear, next, change, Steps, Reach, stay, more, start, move_all, entered, arrived, commanded, ordered, with_queue, with_desk, with_plan}
use Rattle.run.specs.Promise.{Left}
use Rattle.run.specs.Cases.{over_port, over, seven, pair, zeros, visitor, visiting, Through}
use Rattle.run.proofs.Lists.{never}

-- the tables are right
over_right : (i : ℕ) → Right (over.text i) (over.table i)
unfolding once others outputs decided meets_all set_all copies
over_right i p h o = (λ m. m, λ m. m)

seven_right : (i : ℕ) → Right (seven.text i) (seven.table i)
unfolding once others outputs decided meets_all set_all copies each
seven_right i p h o = (λ m. m, λ m. m)

port_small : (i : ℕ) → over_port i < 65536
port_small zero = lit< tt
port_small (suc i) = lit< tt

over_good : GoodPlan pair over
over_good = record { in_range = λ i l. port_small i; right = λ i l. over_right i }

seven_good : GoodPlan pair seven
seven_good = record { in_range = λ i l. (lit< tt, lit< tt); right = λ i l. seven_right i }

-- the one cable
data Joins : (j q i p : ℕ) → Type 0 where
  there : Joins 0 1 1 1
  back : Joins 1 1 0 1

joins : (j q i p : ℕ) → Cable pair j q i p → Joins j q i p
joins zero zero i p e = never (cc)
joins zero (suc zero) i p e = let x : 1 ≡ i = cc in let y : 1 ≡ p = cc in subst (λ (n : ℕ). Joins 0 1 n p) x (subst (λ (n : ℕ). Joins 0 1 1 n) y there)
joins zero (suc (suc q)) i p e = never (cc)
joins (suc zero) zero i p e = never (cc)
joins (suc zero) (suc zero) i p e = let x : 0 ≡ i = cc in let y : 1 ≡ p = cc in subst (λ (n : ℕ). Joins 1 1 n p) x (subst (λ (n : ℕ). Joins 1 1 0 n) y back)
joins (suc zero) (suc (suc q)) i p e = never (cc)
joins (suc (suc j)) q i p e = never (cc)

pair_good : GoodNet pair
pair_good = record { both = λ j q i p e. turn (joins j q i p e); ends = λ j q i p e. ends (joins j q i p e); fits = lit≤ tt; plan = over_good }
  where
    turn : {j q i p : ℕ} → Joins j q i p → Cable pair i p j q
    turn there = refl
    turn back = refl

    ends : {j q i p : ℕ} → Joins j q i p → (i < 2) × (p < 2)
    ends there = (lit< tt, lit< tt)
    ends back = (lit< tt, lit< tt)

small_zeros : (n f : ℕ) → get_or (replicate n 0) f 0 < 65536
small_zeros zero f = lit< tt
small_zeros (suc n) zero = lit< tt
small_zeros (suc n) (suc f) = small_zeros n f

zeros_packet : IsPacket zeros
zeros_packet = record { eight = refl; small = small_zeros 8 }

both_seen : (seen : ℕ → Bool) → T (seen 0) → T (seen 1) → (i : ℕ) → i < 2 → T (seen i)
both_seen seen a b zero l = a
both_seen seen a b (suc zero) l = b
both_seen seen a b (suc (suc i)) l = absurd (omega arith)

-- the first, the second, the third and the fourth of a list
first : {A : Type 0} {x : A} {xs : List A} → Memᴰ x (x ∷ xs)
first = Memᴰ.head refl

second : {A : Type 0} {x y : A} {xs : List A} → Memᴰ x (y ∷ x ∷ xs)
second = Memᴰ.tail first

third : {A : Type 0} {x y z : A} {xs : List A} → Memᴰ x (y ∷ z ∷ x ∷ xs)
third = Memᴰ.tail second

fourth : {A : Type 0} {x y z u : A} {xs : List A} → Memᴰ x (y ∷ z ∷ u ∷ x ∷ xs)
fourth = Memᴰ.tail third

-- what is sent in the change
abbrev installing : Order
installing = Install 1 (seven.table 0)

abbrev stamping : Order
stamping = Stamp 1

abbrev flushing : Order
flushing = Round 1 1

abbrev removing : Order
removing = Remove 0

abbrev the_frame : Item
the_frame = frame (record { frame = visiting; entry = visitor })

abbrev the_mark : Item
the_mark = mark (mark_of 1 1)

-- the steps' targets, in which a state is an argument, so that it is worked out once
abbrev brings : State → State
brings s = commanded (changed 1 s.desk) (with_plan 1 seven s)

abbrev hears : ℕ → State → State
hears i s = with_desk (heard i s.desk) s

abbrev goes_on : State → State
goes_on s = commanded (onwards 1 s.desk) s

-- at port 1 of switch i, from port 1 of switch j, behind which `rest` is
abbrev takes : ℕ → ℕ → Item → List Item → State → State
takes j i x rest s = arrived pair i 1 x (with_queue j 1 rest s)

-- the first state. Who unfolds a state unfolds those before it, and what this line names
s0 : State
unfolding once others outputs decided meets_all set_all knows table_of marks_on all_reach pass_all move_all
s0 = start pair

-- the packet comes in, and the plan is brought
s1 : State
unfolding s0
s1 = entered pair 0 zeros s0

step1 : Step pair s0 s1
unfolding s1
step1 = enter s0 0 (lit< tt) zeros zeros_packet refl

s2 : State
unfolding s1
s2 = brings s1

step2 : Step pair s1 s2
unfolding s2
step2 = change s1 1 seven seven_good refl refl

-- both switches install it
s3 : State
unfolding s2
s3 = ordered pair 0 installing s2

step3 : Step pair s2 s3
unfolding s3
step3 = order s2 0 (lit< tt) installing first

s4 : State
unfolding s3
s4 = ordered pair 1 installing s3

step4 : Step pair s3 s4
unfolding s4
step4 = order s3 1 (lit< tt) installing first

s5 : State
unfolding s4
s5 = hears 0 s4

step5 : Step pair s4 s5
unfolding s5
step5 = hear s4 0 (lit< tt) installing first first

s6 : State
unfolding s5
s6 = hears 1 s5

step6 : Step pair s5 s6
unfolding s6
step6 = hear s5 1 (lit< tt) installing first first

s7 : State
unfolding s6
s7 = goes_on s6

step7 : Step pair s6 s7
unfolding s7
step7 = next s6 tt (both_seen _ tt tt)

-- both stamp it
s8 : State
unfolding s7
s8 = ordered pair 0 stamping s7

step8 : Step pair s7 s8
unfolding s8
step8 = order s7 0 (lit< tt) stamping second

s9 : State
unfolding s8
s9 = ordered pair 1 stamping s8

step9 : Step pair s8 s9
unfolding s9
step9 = order s8 1 (lit< tt) stamping second

s10 : State
unfolding s9
s10 = hears 0 s9

step10 : Step pair s9 s10
unfolding s10
step10 = hear s9 0 (lit< tt) stamping first second

s11 : State
unfolding s10
s11 = hears 1 s10

step11 : Step pair s10 s11
unfolding s11
step11 = hear s10 1 (lit< tt) stamping first second

s12 : State
unfolding s11
s12 = goes_on s11

step12 : Step pair s11 s12
unfolding s12
step12 = next s11 tt (both_seen _ tt tt)

-- switch 0 puts a mark behind the frame
s13 : State
unfolding s12
s13 = ordered pair 0 flushing s12

step13 : Step pair s12 s13
unfolding s13
step13 = order s12 0 (lit< tt) flushing third

-- the frame comes in, and the mark; switch 1 puts its own on the cable; both answer
s14 : State
unfolding s13
s14 = takes 0 1 the_frame (the_mark ∷ []) s13

step14 : Step pair s13 s14
unfolding s14
step14 = arrive s13 0 1 1 1 refl the_frame (the_mark ∷ []) refl

s15 : State
unfolding s14
s15 = takes 0 1 the_mark [] s14

step15 : Step pair s14 s15
unfolding s15
step15 = arrive s14 0 1 1 1 refl the_mark [] refl

s16 : State
unfolding s15
s16 = ordered pair 1 flushing s15

step16 : Step pair s15 s16
unfolding s16
step16 = order s15 1 (lit< tt) flushing third

s17 : State
unfolding s16
s17 = takes 1 0 the_mark [] s16

step17 : Step pair s16 s17
unfolding s17
step17 = arrive s16 1 1 0 1 refl the_mark [] refl

s18 : State
unfolding s17
s18 = ordered pair 0 flushing s17

step18 : Step pair s17 s18
unfolding s18
step18 = order s17 0 (lit< tt) flushing third

s19 : State
unfolding s18
s19 = hears 0 s18

step19 : Step pair s18 s19
unfolding s19
step19 = hear s18 0 (lit< tt) flushing first third

s20 : State
unfolding s19
s20 = hears 1 s19

step20 : Step pair s19 s20
unfolding s20
step20 = hear s19 1 (lit< tt) flushing first third

s21 : State
unfolding s20
s21 = goes_on s20

step21 : Step pair s20 s21
unfolding s21
step21 = next s20 tt (both_seen _ tt tt)

-- both remove the old version
s22 : State
unfolding s21
s22 = ordered pair 0 removing s21

step22 : Step pair s21 s22
unfolding s22
step22 = order s21 0 (lit< tt) removing fourth

s23 : State
unfolding s22
s23 = ordered pair 1 removing s22

step23 : Step pair s22 s23
unfolding s23
step23 = order s22 1 (lit< tt) removing fourth

s24 : State
unfolding s23
s24 = hears 0 s23

step24 : Step pair s23 s24
unfolding s24
step24 = hear s23 0 (lit< tt) removing first fourth

s25 : State
unfolding s24
s25 = hears 1 s24

step25 : Step pair s24 s25
unfolding s25
step25 = hear s24 1 (lit< tt) removing first fourth

s26 : State
unfolding s25
s26 = goes_on s25

step26 : Step pair s25 s26
unfolding s26
step26 = next s25 tt (both_seen _ tt tt)

-- the steps in a row
until13 : Steps pair s0 s13
until13 = more (more (more (more (more (more (more (more (more (more (more (more (more stay step1) step2) step3) step4) step5) step6) step7) step8) step9) step10) step11) step12) step13

reached13 : Reach pair s13
unfolding s0
reached13 = until13

until21 : Steps pair s13 s21
until21 = more (more (more (more (more (more (more (more stay step14) step15) step16) step17) step18) step19) step20) step21

until26 : Steps pair s21 s26
until26 = more (more (more (more (more stay step22) step23) step24) step25) step26

-- what the states are asked for
stamp0 : (s13.switch 0).stamp ≡ 1
unfolding s13
stamp0 = refl

stamp1 : (s13.switch 1).stamp ≡ 1
unfolding s13
stamp1 = refl

cable : s13.queue 0 1 ≡ the_frame ∷ the_mark ∷ []
unfolding s13
cable = refl

stage21 : s21.desk.stage ≡ Removing
unfolding s21
stage21 = refl

marked : (s21.switch 1).latest 1 ≡ mark_of 1 1
unfolding s21
marked = refl

left : Left s21.exits visitor 1 zeros
unfolding s21
left = first

stage26 : s26.desk.stage ≡ Idle
unfolding s26
stage26 = refl

from26 : s26.desk.from ≡ 1
unfolding s26
from26 = refl

pub through : Through
through = record {
  good = pair_good;
  s = s13;
  reached = reached13;
  stamp0 = stamp0;
  stamp1 = stamp1;
  cable = cable;
  t = s21;
  passage = until21;
  removing = stage21;
  marked = marked;
  left = left;
  u = s26;
  finish = until26;
  idle = stage26;
  new = from26;
}
