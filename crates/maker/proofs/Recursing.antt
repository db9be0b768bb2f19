-- One step of the recursion: what is made of Y and N is made of both.
use Rattle.std.proofs.Common.{◌≡◌, ℕ, ◌+◌, ◌<◌, ◌≤◌, true, false, ◌||◌, ltb, List, [], ◌∷◌, ◌++◌, length, get_or, drop, Some, None, Ok, Err, Result, sym, ap, ◌∙◌, subst, arith}
use Rattle.std.proofs.lemmas.List.{drop_more, drop_all}
use Rattle.std.proofs.lemmas.Bool.{cond-true, cond-false, or_left, or_right, or_from, le-ltb, lt-ltb}
use Rattle.std.specs.Result.{IsErrAnd}
use Rattle.std.proofs.lemmas.Result.{err_from_is_err_and}
use Rattle.octets.specs.declared.fault.Fault.{Fault}
use Rattle.packet.specs.Policy.{Policy}
use Rattle.packet.specs.Table.{Want}
use Rattle.prescribed.specs.Table.{is_known, joined, table_from}
use Rattle.prescribed.specs.Fit.{leaves, crowded, long}
use Rattle.table.specs.Good.{Each, GoodRule}
use Rattle.table.specs.Words.{encode}
use Rattle.maker.specs.declared.size.Size.{Size}
use Rattle.packet.specs.declared.pair.Pair.{Pair}
use Rattle.packet.specs.Pairs.{want_of}
use Rattle.leaves.specs.Pairs.{wants_of}
use Rattle.maker.specs.Making.{Made, JoinedAs, MadeOf}

-- the pairs from i on
pub wants_more : (ps : List Pair) (i : ℕ) (d : Pair) → i < length ps → wants_of (drop i ps) ≡ want_of (get_or ps i d) ∷ wants_of (drop (i + 1) ps)
wants_more ps i d lt = ap wants_of (drop_more ps i d lt)

pub wants_none : (ps : List Pair) (i : ℕ) → length ps ≤ i → wants_of (drop i ps) ≡ []
wants_none ps i le = ap wants_of (drop_all i ps le)

-- a refusal that is handed on
pub failed : (a : Policy) (ws known : List Want) (words : List ℕ) (x : Fault) (r : Result Made Fault) → MadeOf a ws known words (Err x) → IsErrAnd r (λ y. y ≡ x) → MadeOf a ws known words r
failed a ws known words x r h e = let p = err_from_is_err_and r e in rw p.1 (h.0, p.2 ∙ h.1)

module _ (a : Policy) (w : Want) (ws known : List Want) where
  -- at a pair whose field is known
  module _ (is : is_known w.at known ≡ true) where
    pub leaves_known : leaves (w ∷ ws) known ≡ leaves ws known
    unfolding leaves
    leaves_known = cond-true _ _ _ is

    table_known : table_from a (w ∷ ws) known ≡ table_from a ws known
    unfolding table_from
    table_known = cond-true _ _ _ is

    crowded_known : crowded a (w ∷ ws) known ≡ crowded a ws known
    unfolding crowded
    crowded_known = cond-true _ _ _ is

    long_known : long a (w ∷ ws) known ≡ (ltb 8192 (length (table_from a ws known)) || long a ws known)
    unfolding long
    long_known = λ i. ltb 8192 (length (table_known i)) || cond-true _ (long a ws known) (long a ws (known ++ w ∷ []) || long a ws known) is i

    pub made_known : (words : List ℕ) (r : Result Made Fault) → MadeOf a ws known words r → MadeOf a (w ∷ ws) known words r
    made_known words (Ok (Some z)) (clear, short, room, written) = (
      crowded_known ∙ clear,
      long_known ∙ or_from _ _ (le-ltb _ _ (omega (arith, written.count, written.few))) short,
      omega (arith, leaves_known, room),
      record { front = written.front ∙ ap encode (sym table_known); count = written.count ∙ ap length (sym table_known); few = written.few; good = subst (Each GoodRule) (sym table_known) written.good },
    )
    made_known words (Ok None) (clear, over) = (crowded_known ∙ clear, long_known ∙ or_right _ _ over)
    made_known words (Err e) (crowd, is) = (crowded_known ∙ crowd, is)

  -- at another pair
  module _ (new : is_known w.at known ≡ false) where
    pub leaves_new : leaves (w ∷ ws) known ≡ leaves ws (known ++ w ∷ []) + leaves ws known
    unfolding leaves
    leaves_new = cond-false _ _ _ new

    table_new : table_from a (w ∷ ws) known ≡ joined w.at (table_from a ws (known ++ w ∷ [])) (table_from a ws known)
    unfolding table_from
    table_new = cond-false _ _ _ new

    crowded_new : crowded a (w ∷ ws) known ≡ (crowded a ws (known ++ w ∷ []) || crowded a ws known)
    unfolding crowded
    crowded_new = cond-false _ _ _ new

    long_new : long a (w ∷ ws) known ≡ (ltb 8192 (length (joined w.at (table_from a ws (known ++ w ∷ [])) (table_from a ws known))) || (long a ws (known ++ w ∷ []) || long a ws known))
    unfolding long
    long_new = λ i. ltb 8192 (length (table_new i)) || cond-false _ (long a ws known) (long a ws (known ++ w ∷ []) || long a ws known) new i

    -- Y has a leaf with too many copies, or N has
    pub made_crowded_y : (words after : List ℕ) (e : Fault) → MadeOf a ws (known ++ w ∷ []) words (Err e) → MadeOf a (w ∷ ws) known after (Err e)
    made_crowded_y words after e (crowd, is) = (crowded_new ∙ or_left _ _ crowd, is)

    pub made_crowded_n : (words after : List ℕ) (e : Fault) → MadeOf a ws known words (Err e) → MadeOf a (w ∷ ws) known after (Err e)
    made_crowded_n words after e (crowd, is) = (crowded_new ∙ or_right _ _ crowd, is)

    clear_of : (k : List Want) (words : List ℕ) (m : Made) → MadeOf a ws k words (Ok m) → crowded a ws k ≡ false
    clear_of k words (Some z) h = h.0
    clear_of k words None h = h.0

    -- Y is too long, and N has no such leaf; or N is too long
    pub made_over_y : (words others after : List ℕ) (m : Made) → MadeOf a ws (known ++ w ∷ []) words (Ok None) → MadeOf a ws known others (Ok m) → MadeOf a (w ∷ ws) known after (Ok None)
    made_over_y words others after m (clear, over) h = (crowded_new ∙ or_from _ _ clear (clear_of known others m h), long_new ∙ or_right _ _ (or_left _ _ over))

    pub made_over_n : (words others after : List ℕ) (y : Size) → MadeOf a ws (known ++ w ∷ []) words (Ok (Some y)) → MadeOf a ws known others (Ok None) → MadeOf a (w ∷ ws) known after (Ok None)
    made_over_n words others after y h (clear, over) = (
      crowded_new ∙ or_from _ _ h.0 clear,
      long_new ∙ or_right (ltb 8192 (length (joined w.at (table_from a ws (known ++ w ∷ [])) (table_from a ws known)))) _ (or_right (long a ws (known ++ w ∷ [])) _ over),
    )

    -- both were made
    pub made_joined : (words others after : List ℕ) (y n : Size) (m : Made) → MadeOf a ws (known ++ w ∷ []) words (Ok (Some y)) → MadeOf a ws known others (Ok (Some n)) →
        JoinedAs w.at (table_from a ws (known ++ w ∷ [])) (table_from a ws known) (y.words + n.words) after m → MadeOf a (w ∷ ws) known after (Ok m)
    made_joined words others after y n (Some z) (clear-y, short-y, room-y, in_y) (clear-n, short_n, room-n, in-n) (room, written) = (
      crowded_new ∙ or_from _ _ clear-y clear-n,
      long_new ∙ or_from _ _ (le-ltb _ _ (omega (arith, written.count, written.few))) (or_from _ _ short-y short_n),
      omega (arith, leaves_new, room, room-y, room-n),
      record { front = written.front ∙ ap encode (sym table_new); count = written.count ∙ ap length (sym table_new); few = written.few; good = subst (Each GoodRule) (sym table_new) written.good },
    )
    made_joined words others after y n None (clear-y, short-y, room-y, in_y) (clear-n, short_n, room-n, in-n) over =
        (crowded_new ∙ or_from _ _ clear-y clear-n, long_new ∙ or_left _ _ (lt-ltb _ _ over))
