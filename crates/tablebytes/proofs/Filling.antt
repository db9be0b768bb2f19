-- A loop that reads one thing after the other, and writes their words one behind the other.
use Rattle.std.proofs.Common.{◌≡◌, ℕ, zero, suc, ◌+◌, ◌-◌, ◌<◌, ◌≤◌, leb, List, [], ◌∷◌, ◌++◌, length, set, Ok, Err, Result, sym, refl, ap, ◌∙◌, add-zero, arith}
use Rattle.std.specs.List.{flat_map}
use Rattle.std.proofs.lemmas.Bool.{le-leb}
use Rattle.std.proofs.lemmas.List.{length-append, length_push, flat_map_more}
use Rattle.octets.specs.Faults.{number}
use Rattle.octets.specs.Parse.{Got, Read, Bad, and_then, check, byte, tested}
use Rattle.octets.specs.declared.fault.Fault.{Fault}
use Rattle.octets.proofs.Yields.{Yields, yields_read, yields_then, yields_any}
use Rattle.tablebytes.specs.declared.filler.Filler.{Filler}
use Rattle.tablebytes.specs.Filled.{written, Gave, Put}
use Rattle.tablebytes.specs.Format.{more, counted}

-- words behind words
pub written_append : (out : List ℕ) (at : ℕ) (us vs : List ℕ) → written (written out at us) (at + length us) vs ≡ written out at (us ++ vs)
written_append out at [] vs = ap (λ e. written out e vs) (add-zero at)
written_append out at (u ∷ us) vs =
    let e : at + suc (length us) ≡ at + 1 + length us = omega arith in
    ap (λ k. written (written (set out at u) (at + 1) us) k vs) e ∙ written_append (set out at u) (at + 1) us vs

-- so many things more are read
more_length : {A : Type 0} (one : List ℕ → Got A) (k : ℕ) (xs : List A) → Yields (more one k xs) (λ ys. length ys ≡ length xs + k)
more_length one zero xs = yields_read _ xs (omega arith)
more_length one (suc k) xs =
    yields_then (λ x. Unit {0}) _ one _ (yields_any one)
    (λ x _ bs ys r e. omega (arith, more_length one k (xs ++ x ∷ []) bs ys r e, length_push xs x))

then_then : {X Y Z : Type 0} (g : Got X) (f : X → List ℕ → Got Y) (h : Y → List ℕ → Got Z) → and_then g (λ x r. and_then (f x r) h) ≡ and_then (and_then g f) h
then_then (Read x bs) f h = refl
then_then (Bad n) f h = refl

module _ {A : Type 0} (one : List ℕ → Got A) (code : A → List ℕ) where
  -- i things of n have been read, and their words written
  pub record Going (n i : ℕ) (start now : Filler) : Type 0 where
    pub done : List A
    pub same : more one (n - i) done now.bytes.now ≡ more one n [] start.bytes.now
    pub place : now.count ≡ start.count + length (flat_map code done)
    pub words : now.out.now ≡ written start.out.now start.count (flat_map code done)
    pub lender : now.out.ghost_name ≡ start.out.ghost_name

  pub going_none : (n : ℕ) (start : Filler) → Going n 0 start start
  going_none n start =
      let all : n - 0 ≡ n = omega arith in
      record { done = []; same = ap (λ k. more one k [] start.bytes.now) all; place = omega arith; words = refl; lender = refl }

  module _ (n i : ℕ) (start now : Filler) (g : Going n i start now) where
    pub going_more : (then : Filler) → i < n → Gave code one now then (Ok tt) → Going n (i + 1) start then
    going_more then lt gave =
        let f = gave.0 in
        let step : n - i ≡ suc (n - (i + 1)) = omega arith in
        let all = flat_map_more code [] g.done f.what in
        let long = ap length all in
        record {
          done = g.done ++ f.what ∷ [];
          same =
              ap (λ o. and_then o (λ x r. more one (n - (i + 1)) (g.done ++ x ∷ []) r)) (sym f.read)
              ∙ ap (λ k. more one k g.done now.bytes.now) (sym step)
              ∙ g.same;
          place = omega (arith, f.place, g.place, long, length-append (flat_map code g.done) (code f.what));
          words =
              f.words ∙ (λ j. written (g.words j) (g.place j) (code f.what)) ∙ written_append start.out.now start.count (flat_map code g.done) (code f.what)
              ∙ ap (written start.out.now start.count) all;
          lender = gave.1 ∙ g.lender;
        }

    pub going_stop : (fault : ℕ) → i < n → one now.bytes.now ≡ Bad fault → more one n [] start.bytes.now ≡ Bad fault
    going_stop fault lt e =
        let step : n - i ≡ suc (n - (i + 1)) = omega arith in
        sym g.same ∙ ap (λ k. more one k g.done now.bytes.now) step ∙ ap (λ o. and_then o (λ x r. more one (n - (i + 1)) (g.done ++ x ∷ []) r)) e

    pub going_all : n ≤ i → more one n [] start.bytes.now ≡ Read g.done now.bytes.now
    going_all le = let none : n - i ≡ 0 = omega arith in sym g.same ∙ ap (λ k. more one k g.done now.bytes.now) none

  -- a number within its limit was read
  pub counted_is : (read : List ℕ → Got ℕ) (most fault n : ℕ) (bs left : List ℕ) → Read n left ≡ read bs → n ≤ most → counted read most fault one bs ≡ more one n [] left
  counted_is read most fault n bs left e le =
      ap (λ o. and_then o (λ k r. and_then (check (leb k most) fault k r) (λ m q. more one m [] q))) (sym e)
      ∙ ap (λ t. and_then (check t fault n left) (λ m q. more one m [] q)) (le-leb n most le)

  module _ (most fault : ℕ) (was : Filler) where
    counted_as : (g : Got ℕ) → g ≡ tested byte (λ k. leb k most) fault was.bytes.now → counted byte most fault one was.bytes.now ≡ and_then g (λ m q. more one m [] q)
    counted_as g e = then_then (byte was.bytes.now) (λ k r. check (leb k most) fault k r) (λ m q. more one m [] q) ∙ ap (λ o. and_then o (λ m q. more one m [] q)) (sym e)

    module _ (n i : ℕ) (start now : Filler) (g : Going n i start now) (read : Read n start.bytes.now ≡ tested byte (λ k. leb k most) fault was.bytes.now) where
      -- all things behind their number
      pub counted_all : Put n was start → n ≤ i → Gave (λ xs. length xs ∷ flat_map code xs) (counted byte most fault one) was now (Ok tt)
      counted_all put le =
          let all = going_all n i start now g le in
          let same : n ≡ length g.done = omega (arith, more_length one n [] start.bytes.now g.done now.bytes.now all) in (
            record {
              what = g.done;
              read = counted_as _ read ∙ all;
              place = omega (arith, g.place, put.count);
              words =
                  g.words ∙ (λ j. written (put.out j) (put.count j) (flat_map code g.done))
                  ∙ ap (λ k. written (set was.out.now was.count k) (was.count + 1) (flat_map code g.done)) same;
            },
            g.lender ∙ put.same,
          )

      -- one of them is not there
      pub counted_stop : (e : Fault) → i < n → one now.bytes.now ≡ Bad (number e) → counted byte most fault one was.bytes.now ≡ Bad (number e)
      counted_stop e lt bad = counted_as _ read ∙ going_stop n i start now g (number e) lt bad

-- one thing, and another behind it
pub gave_both : {X Y Z : Type 0} (codeX : X → List ℕ) (codeY : Y → List ℕ) (code_z : Z → List ℕ) (join : X → Y → Z) → ((x : X) (y : Y) → codeX x ++ codeY y ≡ code_z (join x y)) →
    (first : List ℕ → Got X) (then : List ℕ → Got Y) (was mid is : Filler) (r : Result (Unit {0}) Fault) →
    Gave codeX first was mid (Ok tt) → Gave codeY then mid is r → Gave code_z (λ bs. and_then (first bs) (λ x q. and_then (then q) (λ y p. Read (join x y) p))) was is r
gave_both codeX codeY code_z join same first then was mid is (Ok done) f g = (
  record {
    what = join f.0.what g.0.what;
    read =
        ap (λ o. and_then o (λ x q. and_then (then q) (λ y p. Read (join x y) p))) f.0.read
        ∙ ap (λ o. and_then o (λ y p. Read (join f.0.what y) p)) g.0.read;
    place = omega (arith, f.0.place, g.0.place, length-append (codeX f.0.what) (codeY g.0.what), ap length (same f.0.what g.0.what));
    words =
        g.0.words ∙ (λ j. written (f.0.words j) (f.0.place j) (codeY g.0.what)) ∙ written_append was.out.now was.count (codeX f.0.what) (codeY g.0.what)
        ∙ ap (written was.out.now was.count) (same f.0.what g.0.what);
  },
  g.1 ∙ f.1,
)
gave_both codeX codeY code_z join same first then was mid is (Err fault) f e =
    ap (λ o. and_then o (λ x q. and_then (then q) (λ y p. Read (join x y) p))) f.0.read ∙ ap (λ o. and_then o (λ y p. Read (join f.0.what y) p)) e
