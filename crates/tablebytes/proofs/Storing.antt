-- A table that was measured is read again, and its words fill the front.
use Rattle.std.proofs.Common.{◌≡◌, ℕ, suc, ◌+◌, ◌≤◌, Bool, true, leb, List, [], ◌∷◌, ◌++◌, length, take, drop, set, IfOk, Ok, Err, MatchBool, Result, refl, sym, ap, ◌∙◌, subst, add-zero, zero-add, arith}
use Rattle.std.proofs.lemmas.List.{append_assoc, length-set, take-append-drop, take_more_set, drop-set-lt, take_at}
use Rattle.std.proofs.lemmas.Bool.{le-leb}
use Rattle.octets.specs.Parse.{Got, Read, Bad, and_then, ended}
use Rattle.octets.specs.declared.fault.Fault.{Fault}
use Rattle.octets.proofs.Streams.{never}
use Rattle.packet.specs.Table.{Table}
use Rattle.table.specs.Words.{Sound, rules_of, encode}
use Rattle.table.proofs.Encoding as layout
use Rattle.tablebytes.specs.Filled.{written, Wrote, Stored, sized}
use Rattle.tablebytes.specs.Format.{table, alone}
use Rattle.tablebytes.proofs.Trips.{table_good}

when_so : (P Q : Type 0) (b : Bool) → b ≡ true → P → MatchBool b P Q
when_so P Q b e p = subst (λ v. MatchBool v P Q) (sym e) p

-- where there is room for all the words, they stand between what was there
written_between : (out : List ℕ) (at : ℕ) (ws : List ℕ) → at + length ws ≤ length out → written out at ws ≡ take at out ++ (ws ++ drop (at + length ws) out)
written_between out at [] le = sym (take-append-drop at out) ∙ ap (λ k. take at out ++ drop k out) (sym (add-zero at))
written_between out at (w ∷ ws) le =
    let far : at + 1 + length ws ≡ at + suc (length ws) = omega arith in
    written_between (set out at w) (at + 1) ws (omega (arith, length-set out at w))
    ∙ (λ i. take_more_set out at w (omega arith) i ++ (ws ++ drop-set-lt (at + 1 + length ws) out at w (omega arith) i))
    ∙ append_assoc (take at out) (w ∷ []) (ws ++ drop (at + 1 + length ws) out) ∙ ap (λ k. take at out ++ (w ∷ (ws ++ drop k out))) far

pub record Sized (got : Got Table) (n : ℕ) (left : List ℕ) : Type 0 where
  pub what : Table
  pub read : got ≡ Read what left
  pub long : n ≡ length (encode what)

sized_is : (got : Got Table) (n : ℕ) (left : List ℕ) → Read n left ≡ sized got → Sized got n left
sized_is (Read t rest) n left e =
    let same : n ≡ length (encode t) = cc in
    let end : rest ≡ left = cc in
    record { what = t; read = ap (Read t) end; long = same }
sized_is (Bad m) n left e = never (sym e)

-- nothing follows what was measured
ended_none : (bs : List ℕ) → ◌≡◌ {A = Got (Unit {0})} (Read tt []) (ended tt bs) → bs ≡ []
ended_none [] e = refl
ended_none (b ∷ bs) e = never (sym e)

pub measured : (bs from left : List ℕ) (n : ℕ) → from ≡ bs → ◌≡◌ {A = Got (Unit {0})} (Read tt []) (ended tt left) → Read n left ≡ sized (table from) → Sized (table bs) n []
measured bs from left n is end read = sized_is (table bs) n [] (ap (Read n) (sym (ended_none left end)) ∙ read ∙ ap (λ l. sized (table l)) is)

module _ (bs before after : List ℕ) (t : Table) (is : table bs ≡ Read t []) where
  all : alone bs ≡ Read t []
  all = ap (λ g. and_then g ended) is

  front : (end : ℕ) → Wrote (table bs) before after (Ok end) → length (encode t) ≤ length before → (end ≡ length (encode t)) × (after ≡ encode t ++ drop (length (encode t)) before)
  front end (left, f) room =
      let same : t ≡ f.what = let e : Read t [] ≡ Read f.what left = sym is ∙ f.read in cc in (
        omega (arith, f.place, ap (λ u. length (encode u)) same),
        f.words ∙ ap (λ u. written before 0 (encode u)) (sym same) ∙ written_between before 0 (encode t) (omega arith)
            ∙ ap (λ k. encode t ++ drop k before) (zero-add (length (encode t))),
      )

  pub stored : (r : Result ℕ Fault) → Wrote (table bs) before after r → length (encode t) ≤ length before → Stored (alone bs) before after r
  stored (Ok end) f room =
      let p = front end f room in
      let n = length (encode t) in
      let fits = le-leb n (length before) room in
      subst (λ g. Stored g before after (Ok end)) (sym all) (when_so _ _ (leb n (length before)) fits (ap Ok p.0, p.1))
  stored (Err fault) e room = never (sym e ∙ is)

  pub stands : (r : Result ℕ Fault) → Wrote (table bs) before after r → length (encode t) ≤ length before →
      IfOk r (λ n. Sound (take n after) × (alone bs ≡ Read (rules_of (take n after)) []))
  stands (Ok end) f room =
      let p = front end f room in
      let law = layout.reads_back t (table_good bs t [] is) in
      let words : take end after ≡ encode t = ap (take end) p.1 ∙ take_at (encode t) _ end (sym p.0) in
      (subst Sound (sym words) law.0, all ∙ ap (λ u. Read u []) (sym (ap rules_of words ∙ law.1)))
  stands (Err fault) e room = never (sym e ∙ is)
