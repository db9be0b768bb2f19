-- From one pair to the next: what the recursion is given, and what it gives back.
use Rattle.std.proofs.Common.{◌≡◌, ℕ, ◌+◌, ◌-◌, ◌*◌, ◌<◌, ◌≤◌, true, false, List, [], ◌∷◌, ◌++◌, length, take, drop, Some, None, Ok, Err, Result, sym, refl, ap, ◌∙◌, subst, arith}
use borrow.Rule.Slice.PartMut.{put_mid}
use Rattle.std.proofs.lemmas.List.{length_push, take_at, drop_at, length-take-le, take-append-le, length-append, length-drop}
use Rattle.std.proofs.lemmas.Bool.{eq-eqb, both_ways, or_right, or_left}
use Rattle.octets.specs.declared.fault.Fault.{Fault}
use Rattle.packet.specs.Packet.{put}
use Rattle.packet.specs.Policy.{Policy}
use Rattle.packet.specs.Table.{Want}
use Rattle.prescribed.specs.Table.{is_known, sample, unnamed, table_from}
use Rattle.prescribed.specs.Fit.{leaves}
use Rattle.prescribed.proofs.Asks.{is_known_append}
use Rattle.maker.specs.declared.size.Size.{Size}
use Rattle.packet.specs.declared.pair.Pair.{Pair}
use Rattle.packet.specs.Pairs.{want_of}
use Rattle.maker.specs.declared.known.Known.{Known}
use Rattle.leaves.specs.Pairs.{wants_of}
use Rattle.maker.specs.Knowing.{known_of}
use Rattle.maker.specs.Making.{Made, JoinedAs, rule_room, MadeOf}
use Rattle.maker.specs.Tasks.{pair_at, field_at, Task}
use Rattle.table.specs.Good.{Each, GoodWant}
use Rattle.prescribed.proofs.Sample.{knowing_push}
use Rattle.maker.proofs.Joining.{each_append}
use Rattle.maker.proofs.Recursing.{wants_more, wants_none, leaves_known, leaves_new, made_known, made_crowded_y, made_crowded_n, made_over_y, made_over_n, made_joined}

known_pushed : (ws : List Want) (w : Want) (f : ℕ) → w.at ≡ f → is_known f (ws ++ w ∷ []) ≡ true
unfolding is_known
known_pushed ws w f e = is_known_append f ws (w ∷ []) ∙ or_right (is_known f ws) (is_known f (w ∷ [])) (or_left _ false (eq-eqb _ _ e))

-- a field that is not known is not the field that is
apart : (ws : List Want) (f g : ℕ) → is_known f ws ≡ true → is_known g ws ≡ false → f ≤ g → f < g
apart ws f g has lacks le = below (λ e. both_ways (is_known g ws) lacks (ap (λ h. is_known h ws) (sym e) ∙ has)) le
  where
    below : (f ≡ g → ⊥) → f ≤ g → f < g
    below ne le = omega arith

module _ (a : Policy) (ps : List Pair) (i : ℕ) (k : Known) (words : ℕ) (task : Task a ps i k words) (lt : i < length ps) where
  first : wants_of (drop i ps) ≡ want_of (pair_at ps i) ∷ wants_of (drop (i + 1) ps)
  first = wants_more ps i (record { field = 0; value = 0 }) lt

  rise : i + 1 < length ps → field_at ps i ≤ field_at ps (i + 1)
  rise h = task.order.rise i h

  -- the field is known
  module _ (is : is_known (field_at ps i) (known_of k) ≡ true) where
    pub task_known : Task a ps (i + 1) k words
    task_known = record {
      order = task.order;
      count = record {
        most = λ h. omega (arith, task.count.most lt, rise h);
        fewer = λ h lacks. omega (arith, task.count.most lt, apart (known_of k) (field_at ps i) (field_at ps (i + 1)) is lacks (rise h));
      };
      low = task.low;
      sample = task.sample;
      room = omega (arith, task.room, ap (λ l. leaves l (known_of k)) first, leaves_known a (want_of (pair_at ps i)) (wants_of (drop (i + 1) ps)) (known_of k) is);
    }

    pub turn_known : (out : List ℕ) (r : Result Made Fault) → MadeOf a (wants_of (drop (i + 1) ps)) (known_of k) out r → MadeOf a (wants_of (drop i ps)) (known_of k) out r
    turn_known out r h = subst (λ l. MadeOf a l (known_of k) out r) (sym first) (made_known a _ (wants_of (drop (i + 1) ps)) (known_of k) is out r h)

  -- it is not
  module _ (new : is_known (field_at ps i) (known_of k) ≡ false) where
    pub room_for_both : rule_room * leaves (wants_of (drop (i + 1) ps)) (known_of k ++ want_of (pair_at ps i) ∷ []) + rule_room * leaves (wants_of (drop (i + 1) ps)) (known_of k) ≤ words
    room_for_both = omega (arith, task.room, ap (λ l. leaves l (known_of k)) first, leaves_new a (want_of (pair_at ps i)) (wants_of (drop (i + 1) ps)) (known_of k) new)

    pub task_yes : (with : Known) → known_of with ≡ known_of k ++ want_of (pair_at ps i) ∷ [] →
        with.sample.fields ≡ put (field_at ps i) (pair_at ps i).value k.sample.fields → Task a ps (i + 1) with words
    task_yes with known sampled = record {
      order = task.order;
      count = record {
        most = λ h. omega (arith, ap length known, length_push (known_of k) (want_of (pair_at ps i)), task.count.fewer lt new, rise h);
        fewer = λ h lacks. omega (
          arith,
          ap length known,
          length_push (known_of k) (want_of (pair_at ps i)),
          task.count.fewer lt new,
          apart (known_of with) (field_at ps i) (field_at ps (i + 1)) (ap (is_known (field_at ps i)) known ∙ known_pushed (known_of k) _ (field_at ps i) refl) lacks (rise h),
        );
      };
      low = subst (Each GoodWant) (sym known) (each_append GoodWant (known_of k) _ task.low (omega (arith, task.order.low i), tt));
      sample =
          sampled ∙ ap (put (field_at ps i) (pair_at ps i).value) task.sample
          ∙ sym (knowing_push (known_of k) (want_of (pair_at ps i)) (unnamed a)) ∙ ap (sample a) (sym known);
      room = omega (arith, room_for_both, ap (leaves (wants_of (drop (i + 1) ps))) known);
    }

    pub task_no : (room : ℕ) → rule_room * leaves (wants_of (drop (i + 1) ps)) (known_of k) ≤ room → Task a ps (i + 1) k room
    task_no room le = record {
      order = task.order;
      count = record {
        most = λ h. omega (arith, task.count.fewer lt new, rise h);
        fewer = λ h lacks. omega (arith, task.count.fewer lt new, rise h);
      };
      low = task.low;
      sample = task.sample;
      room = le;
    }

    -- what is given back, where `with` is what is known in Y
    module _ (with : Known) (known : known_of with ≡ known_of k ++ want_of (pair_at ps i) ∷ []) where
      in_y : (out : List ℕ) (r : Result Made Fault) → MadeOf a (wants_of (drop (i + 1) ps)) (known_of with) out r →
          MadeOf a (wants_of (drop (i + 1) ps)) (known_of k ++ want_of (pair_at ps i) ∷ []) out r
      in_y out r h = subst (λ l. MadeOf a (wants_of (drop (i + 1) ps)) l out r) known h

      back : (out : List ℕ) (r : Result Made Fault) → MadeOf a (want_of (pair_at ps i) ∷ wants_of (drop (i + 1) ps)) (known_of k) out r → MadeOf a (wants_of (drop i ps)) (known_of k) out r
      back out r h = subst (λ l. MadeOf a l (known_of k) out r) (sym first) h

      -- N has room behind Y
      pub fits_behind : (out : List ℕ) (y : Size) → MadeOf a (wants_of (drop (i + 1) ps)) (known_of with) out (Ok (Some y)) →
          y.words + rule_room * leaves (wants_of (drop (i + 1) ps)) (known_of k) ≤ words
      fits_behind out y h = omega (arith, h.2, room_for_both, ap (leaves (wants_of (drop (i + 1) ps))) known)

      pub turn_crowded_y : (out after : List ℕ) (e : Fault) → MadeOf a (wants_of (drop (i + 1) ps)) (known_of with) out (Err e) → MadeOf a (wants_of (drop i ps)) (known_of k) after (Err e)
      turn_crowded_y out after e h = back after (Err e) (made_crowded_y a _ _ (known_of k) new out after e (in_y out (Err e) h))

      pub turn_crowded_n : (out after : List ℕ) (e : Fault) → MadeOf a (wants_of (drop (i + 1) ps)) (known_of k) out (Err e) → MadeOf a (wants_of (drop i ps)) (known_of k) after (Err e)
      turn_crowded_n out after e h = back after (Err e) (made_crowded_n a _ _ (known_of k) new out after e h)

      pub turn_over_y : (out others after : List ℕ) (m : Made) → MadeOf a (wants_of (drop (i + 1) ps)) (known_of with) out (Ok None) →
          MadeOf a (wants_of (drop (i + 1) ps)) (known_of k) others (Ok m) → MadeOf a (wants_of (drop i ps)) (known_of k) after (Ok None)
      turn_over_y out others after m h g = back after (Ok None) (made_over_y a _ _ (known_of k) new out others after m (in_y out (Ok None) h) g)

      pub turn_over_n : (out others after : List ℕ) (y : Size) → MadeOf a (wants_of (drop (i + 1) ps)) (known_of with) out (Ok (Some y)) →
          MadeOf a (wants_of (drop (i + 1) ps)) (known_of k) others (Ok None) → MadeOf a (wants_of (drop i ps)) (known_of k) after (Ok None)
      turn_over_n out others after y h g = back after (Ok None) (made_over_n a _ _ (known_of k) new out others after y (in_y out (Ok (Some y)) h) g)

      pub turn_joined : (out others after : List ℕ) (y n : Size) (m : Made) → MadeOf a (wants_of (drop (i + 1) ps)) (known_of with) out (Ok (Some y)) →
          MadeOf a (wants_of (drop (i + 1) ps)) (known_of k) others (Ok (Some n)) →
          JoinedAs (field_at ps i) (table_from a (wants_of (drop (i + 1) ps)) (known_of with)) (table_from a (wants_of (drop (i + 1) ps)) (known_of k)) (y.words + n.words) after m →
          MadeOf a (wants_of (drop i ps)) (known_of k) after (Ok m)
      turn_joined out others after y n m h g j =
          back after (Ok m)
          (made_joined a _ _ (known_of k) new out others after y n m (in_y out (Ok (Some y)) h) g
          (subst (λ l. JoinedAs (field_at ps i) (table_from a (wants_of (drop (i + 1) ps)) l) (table_from a (wants_of (drop (i + 1) ps)) (known_of k)) (y.words + n.words) after m) known j))

-- the words after N was written behind Y, which is e words long: back is the part behind
module _ (e m : ℕ) (ws back : List ℕ) (le : e ≤ length ws) (inside : m ≤ length back) where
  pub front_stays : take e (put_mid e (length ws - e) ws back) ≡ take e ws
  front_stays = take_at (take e ws) _ e (length-take-le e ws le)

  pub back_is : take m (drop e (put_mid e (length ws - e) ws back)) ≡ take m back
  back_is = ap (take m) (drop_at (take e ws) _ e (length-take-le e ws le)) ∙ take-append-le m back _ inside

-- where no pair is left there is room for a rule
pub room_for_leaf : (a : Policy) (ps : List Pair) (i : ℕ) (k : Known) (words : ℕ) → Task a ps i k words → length ps ≤ i → 290 ≤ words
unfolding leaves
room_for_leaf a ps i k words task le = omega (arith, task.room, ap (λ l. leaves l (known_of k)) (wants_none ps i le))

-- the whole keeps its length
pub whole_length : (e : ℕ) (ws back : List ℕ) → e ≤ length ws → length back ≡ length ws - e → length (put_mid e (length ws - e) ws back) ≡ length ws
whole_length e ws back le is =
    length-append (take e ws) _ ∙ omega (arith, length-take-le e ws le, is, length-append back (drop (length ws - e) (drop e ws)), length-drop (length ws - e) (drop e ws), length-drop e ws)
