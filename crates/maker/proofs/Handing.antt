-- What is left in the lent words: a table and zeros, which a switch reads as the table.
use Rattle.std.proofs.Common.{◌≡◌, ℕ, ◌-◌, ◌*◌, ◌<◌, ◌≤◌, List, [], ◌++◌, length, take, drop, replicate, Some, None, Option, Ok, Err, Result, MatchResult, sym, ap, ◌∙◌, subst, arith, length-drop, length-take}
use lib.Seq.{drop-length, take-append_seam}
use borrow.Rule.Slice.PartMut.{put_mid}
use Rattle.std.proofs.lemmas.List.{append-nil}
use Rattle.std.proofs.lemmas.Bool.{cond-true, cond-false, le-ltb, lt-ltb}
use Rattle.packet.specs.Policy.{Policy}
use Rattle.packet.specs.Table.{Right}
use Rattle.prescribed.specs.Table.{pairs_of, same_want, table_of}
use Rattle.prescribed.specs.Fit.{product, fault_of}
use Rattle.prescribed.proofs.Same.{compares_lists, compares_wants}
use Rattle.prescribed.proofs.Right.{always_right}
use Rattle.table.specs.Words.{encode, Sound, rules_of}
use Rattle.table.specs.Good.{Good}
use Rattle.table.proofs.Encoding.{reads_back}
use Rattle.std.specs.Option.{option_map_or}
use Rattle.leaves.specs.Pairs.{pairs_in, Fits}
use Rattle.octets.specs.declared.fault.Fault.{Fault}
use Rattle.maker.specs.declared.maker.Maker.{Maker}
use Rattle.maker.specs.declared.maker.NoTable.{NoTable}
use Rattle.maker.specs.declared.maker.NoTable.TheVariants.{Refused}
use Rattle.maker.specs.Whole.{Put}
use Rattle.maker.specs.Makers.{policy_of, room, Makes, Handed}

-- what a maker holds is its text's
pub held : (m : Maker) → pairs_in m.pairs ≡ pairs_of (policy_of m)
held m = (compares_lists same_want compares_wants _ _).0 m.pairs_of

module _ (m : Maker) where
  pub has_room : product (pairs_in m.pairs) ≤ 65536 → room (policy_of m) ≡ 290 * product (pairs_in m.pairs)
  has_room le =
      let e = ap product (held m) in
      cond-false _ _ _ (le-ltb 65536 (product (pairs_of (policy_of m))) (omega (arith, e, le))) ∙ ap (λ n. 290 * n) (sym e)

  pub no_room : 65536 < product (pairs_in m.pairs) → room (policy_of m) ≡ 0
  no_room lt = cond-true _ _ _ (lt-ltb 65536 (product (pairs_of (policy_of m))) (omega (arith, ap product (held m), lt)))

  pub no_table : 65536 < product (pairs_in m.pairs) → fault_of (policy_of m) ≡ 5
  no_table lt = cond-true _ _ _ (lt-ltb 65536 (product (pairs_of (policy_of m))) (omega (arith, ap product (held m), lt)))

  pub room_by : (r : Option ℕ) → Fits (product (pairs_in m.pairs)) r → option_map_or (λ n. 290 * n) r 0 ≡ room (policy_of m)
  room_by (Some n) h = ap (λ k. 290 * k) h.0 ∙ sym (has_room h.1)
  room_by None h = sym (no_room h)

-- a table that is the first n words, and zeros behind it
pub cleared : (n lent : ℕ) (ws zeros table : List ℕ) → n ≤ length ws → length ws ≡ lent → take n ws ≡ table →
    zeros ≡ replicate (length (take (length ws - n) (drop n ws))) 0 → put_mid n (length ws - n) ws zeros ≡ table ++ replicate (lent - n) 0
cleared n lent ws zeros table le same front is =
    let all : length ws - n ≡ length (drop n ws) = sym (length-drop n ws) in
    let rest : drop (length ws - n) (drop n ws) ≡ [] = ap (λ k. drop k (drop n ws)) all ∙ drop-length (drop n ws) in
    let size : length (take (length ws - n) (drop n ws)) ≡ lent - n = omega (arith, length-take (length ws - n) (drop n ws), length-drop n ws, same) in
    ap (λ l. take n ws ++ (zeros ++ l)) rest ∙ (λ i. front i ++ (append-nil zeros ∙ is ∙ ap (λ k. replicate k 0) size) i)

-- a switch that is handed the table's words
pub handed : (a : Policy) (n : ℕ) (after zeros : List ℕ) → Good (table_of a) → n ≡ length (encode (table_of a)) → after ≡ encode (table_of a) ++ zeros →
    Handed a after (Ok n)
handed a n after zeros good size is =
    let front : take n after ≡ encode (table_of a) = ap (λ k. take k after) size ∙ ap (take (length (encode (table_of a)))) is ∙ take-append_seam (encode (table_of a)) zeros in
    let read = reads_back (table_of a) good in
    let rules : rules_of (take n after) ≡ table_of a = ap rules_of front ∙ read.1 in
    (subst Sound (sym front) read.0, rules, subst (Right a) (sym rules) (always_right a))

-- what is made of the words that were put
module _ (a : Policy) (lent : ℕ) (after : List ℕ) where
  pub made_by : (r : Result ℕ Fault) (s : Result ℕ NoTable) → room a ≤ lent → Put a lent after r → MatchResult r (λ n. s ≡ Ok n) (λ e. s ≡ Err (Refused e)) → Makes a lent after s
  made_by (Ok n) s le h e = rw e (le, h.0, h.1, h.2)
  made_by (Err f) s le h e = rw e (le, h.0, h.1, h.2)

  pub handed_by : (r : Result ℕ Fault) (s : Result ℕ NoTable) → Put a lent after r → MatchResult r (λ n. s ≡ Ok n) (λ e. s ≡ Err (Refused e)) → Handed a after s
  handed_by (Ok n) s h e = rw e (handed a n after _ h.3 h.1 h.2)
  handed_by (Err f) s h e = rw e tt
