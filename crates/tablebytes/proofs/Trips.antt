-- Reading and writing tables undo each other.
use Rattle.std.proofs.Common.{◌≡◌, ℕ, zero, suc, ◌+◌, ◌*◌, ◌/◌, ◌%◌, ◌≤◌, leb, ltb, List, [], ◌∷◌, ◌++◌, length, take, sym, refl, ap, ◌∙◌, arith}
use Rattle.std.specs.List.{flat_map}
use Rattle.std.proofs.lemmas.List.{append-nil, append_assoc, length_push}
use Rattle.std.proofs.lemmas.Bool.{le-leb, leb-true, lt-ltb, ltb-true}
use Rattle.octets.specs.Parse.{Got, Read, Bad, and_then, check, byte, word, ended, word_bytes}
use Rattle.octets.specs.Streams.{Consumes, Streams}
use Rattle.octets.proofs.Streams.{never, streams_read, streams_byte, streams_word, streams_check, streams_then}
use Rattle.octets.proofs.Spells.{Spells, spells_read, spells_byte, spells_word, spells_check, spells_then}
use Rattle.octets.proofs.Yields.{Yields, yields_read, yields_check, yields_then, yields_any}
use Rattle.packet.specs.Table.{Want, Rule, Table}
use Rattle.table.specs.Bytes.{want_bytes, setting_bytes, wants_bytes, out_bytes, outs_bytes, rule_bytes, table_bytes}
use Rattle.table.specs.Good.{Each, GoodWant, GoodSetting, GoodOut, GoodRule, Good}
use Rattle.tablebytes.specs.Format.{field, want, setting, more, counted, wants, out, outs, rule, table, alone}
use Rattle.tablebytes.specs.Laws.{ReadsBack, WritesBack, NoFront}

word_joined : (v : ℕ) → v / 256 * 256 + v % 256 ≡ v
word_joined v = omega arith

each_push : {A : Type 0} (P : A → Type 0) (xs : List A) (x : A) → Each P xs → P x → Each P (xs ++ x ∷ [])
each_push P [] x h p = (p, tt)
each_push P (y ∷ xs) x h p = (h.0, each_push P xs x h.1 p)

then_nothing : (u w : List ℕ) → w ≡ [] → u ++ w ≡ u
then_nothing u w e = ap (λ l. u ++ l) e ∙ append-nil u

-- What holds of a reader of one thing, and how it is written, holds of so many things with their number.
record Form {A : Type 0} (one : List ℕ → Got A) (code : A → List ℕ) (P : A → Type 0) : Type 1 where
  back : (x : A) (rest : List ℕ) → P x → one (code x ++ rest) ≡ Read x rest
  good : Yields one P
  spelt : Spells one (λ x used. used ≡ code x)
  streams : Streams one

-- bytes that count, as they are read and written
record Number (read : List ℕ → Got ℕ) (code : ℕ → List ℕ) : Type 0 where
  back : (k : ℕ) (rest : List ℕ) → read (code k ++ rest) ≡ Read k rest
  spelt : Spells read (λ k used. used ≡ code k)
  streams : Streams read

a_byte : Number byte (λ k. k ∷ [])
a_byte = record { back = λ k rest. refl; spelt = spells_byte; streams = streams_byte }

a_word : Number word word_bytes
a_word = record { back = λ k rest. ap (λ v. Read v rest) (word_joined k); spelt = spells_word; streams = streams_word }

module _ {A : Type 0} (one : List ℕ → Got A) (code : A → List ℕ) (P : A → Type 0) (form : Form one code P) where
  more_back : (xs ys : List A) (rest : List ℕ) → Each P ys → more one (length ys) xs (flat_map code ys ++ rest) ≡ Read (xs ++ ys) rest
  more_back xs [] rest h = ap (λ l. Read l rest) (sym (append-nil xs))
  more_back xs (y ∷ ys) rest h =
      ap (λ l. and_then (one l) (λ x r. more one (length ys) (xs ++ x ∷ []) r)) (append_assoc (code y) (flat_map code ys) rest)
      ∙ ap (λ g. and_then g (λ x r. more one (length ys) (xs ++ x ∷ []) r)) (form.back y (flat_map code ys ++ rest) h.0)
      ∙ more_back (xs ++ y ∷ []) ys rest h.1 ∙ ap (λ l. Read l rest) (append_assoc xs (y ∷ []) ys)

  more_good : (k : ℕ) (xs : List A) → Each P xs → Yields (more one k xs) (λ ys. (length ys ≡ length xs + k) × Each P ys)
  more_good zero xs h = yields_read _ xs (omega arith, h)
  more_good (suc k) xs h =
      yields_then P _ one _ form.good
      (λ x p bs ys r e. let g = more_good k (xs ++ x ∷ []) (each_push P xs x h p) bs ys r e in (omega (arith, g.0, length_push xs x), g.1))

  -- k things behind those of xs
  abbrev Further : ℕ → List A → List A → List ℕ → Type 0
  Further k xs all used = (ys : List A) × (all ≡ xs ++ ys) × (used ≡ flat_map code ys) × (length ys ≡ k)

  spells_more : (k : ℕ) (xs : List A) → Spells (more one k xs) (Further k xs)
  spells_more zero xs = spells_read (Further 0 xs) xs ([], sym (append-nil xs), refl, refl)
  spells_more (suc k) xs =
      spells_then (λ x u. u ≡ code x) (λ x. Further k (xs ++ x ∷ [])) _ one _
      (λ x all u w p q. (x ∷ q.0, q.1 ∙ append_assoc xs (x ∷ []) q.0, λ i. p i ++ q.2 i, ap suc q.3)) form.spelt
      (λ x. spells_more k (xs ++ x ∷ []))

  streams_more : (k : ℕ) (xs : List A) → Streams (more one k xs)
  streams_more zero xs = streams_read xs
  streams_more (suc k) xs = streams_then one _ form.streams (λ x. streams_more k (xs ++ x ∷ []))

  module _ (number : List ℕ → Got ℕ) (code_n : ℕ → List ℕ) (is : Number number code_n) (most fault : ℕ) where
    abbrev Few : List A → Type 0
    Few xs = (length xs ≤ most) × Each P xs

    counted_form : Form (counted number most fault one) (λ xs. code_n (length xs) ++ flat_map code xs) Few
    counted_form = record {
      back = λ xs rest h.
          ap (λ l. and_then (number l) (λ k r. and_then (check (leb k most) fault k r) (λ m q. more one m [] q))) (append_assoc (code_n (length xs)) (flat_map code xs) rest)
          ∙ ap (λ g. and_then g (λ k r. and_then (check (leb k most) fault k r) (λ m q. more one m [] q))) (is.back (length xs) (flat_map code xs ++ rest))
          ∙ ap (λ t. and_then (check t fault (length xs) (flat_map code xs ++ rest)) (λ m q. more one m [] q)) (le-leb (length xs) most h.0)
          ∙ more_back [] xs rest h.1;
      good =
          yields_then (λ k. Unit {0}) Few number _ (yields_any number) (λ k _.
          yields_then (λ m. m ≤ most) Few (λ r. check (leb k most) fault k r) _ (yields_check _ (leb k most) fault k (leb-true k most)) (λ m le.
          (λ bs xs r e. let g = more_good m [] tt bs xs r e in (omega (arith, g.0, le), g.1))));
      spelt =
          spells_then (λ k u. u ≡ code_n k) (λ k. Further k []) _ number _
          (λ k xs u w p q. (λ i. (p ∙ ap code_n (sym q.3 ∙ ap length (sym q.1))) i ++ (q.2 ∙ ap (flat_map code) (sym q.1)) i)) is.spelt
          (λ k. spells_then (λ m w. (k ≡ m) × (w ≡ [])) (λ m. Further m []) (Further k []) (λ r. check (leb k most) fault k r) _
          (λ m xs u w p q. (q.0, q.1, ap (λ l. l ++ w) p.1 ∙ q.2, q.3 ∙ sym p.0))
          (spells_check (λ m w. (k ≡ m) × (w ≡ [])) _ fault k (refl, refl)) (λ m. spells_more m []));
      streams = streams_then number _ is.streams (λ k. streams_then (λ r. check (leb k most) fault k r) _ (streams_check _ fault k) (λ m. streams_more m []));
    }

form_as : {A : Type 0} (one : List ℕ → Got A) (code : A → List ℕ) (P Q : A → Type 0) → ((x : A) → Q x → P x) → ((x : A) → P x → Q x) → Form one code P → Form one code Q
form_as one code P Q to from form = record {
  back = λ x rest h. form.back x rest (to x h);
  good = λ bs x rest e. from x (form.good bs x rest e);
  spelt = form.spelt;
  streams = form.streams;
}

-- A field and a value.
module _ {A : Type 0} (make : ℕ → ℕ → A) (at value : A → ℕ) (made : (a : A) → make (at a) (value a) ≡ a) (at-made : (f x : ℕ) → at (make f x) ≡ f) (value_made : (f x : ℕ) → value (make f x) ≡ x) where
  pair : List ℕ → Got A
  pair bs = and_then (field bs) (λ f r. and_then (word r) (λ x q. Read (make f x) q))

  spells_field : Spells field (λ f u. u ≡ f ∷ [])
  spells_field =
      spells_then (λ k u. u ≡ k ∷ []) (λ k m w. (k ≡ m) × (w ≡ [])) _ byte (λ k r. check (ltb k 8) 2 k r)
      (λ k m u w p q. then_nothing u w q.1 ∙ p ∙ ap (λ z. z ∷ []) q.0) spells_byte
      (λ k. spells_check (λ m w. (k ≡ m) × (w ≡ [])) (ltb k 8) 2 k (refl, refl))

  spells_value : (f : ℕ) → Spells (λ r. and_then (word r) (λ x q. Read (make f x) q)) (λ a used. f ∷ used ≡ at a ∷ word_bytes (value a))
  spells_value f =
      spells_then (λ x u. u ≡ word_bytes x) (λ x a w. (make f x ≡ a) × (w ≡ [])) _ word (λ x q. Read (make f x) q)
      (λ x a u w p q.
      ap (λ l. f ∷ l) (then_nothing u w q.1 ∙ p) ∙ (λ i. sym (at-made f x) i ∷ word_bytes (sym (value_made f x) i)) ∙ ap (λ b. at b ∷ word_bytes (value b)) q.0)
      spells_word (λ x. spells_read (λ a w. (make f x ≡ a) × (w ≡ [])) (make f x) (refl, refl))

  pair_form : Form pair (λ a. at a ∷ word_bytes (value a)) (λ a. at a ≤ 7)
  unfolding pair
  pair_form = record {
    back = λ a rest h. rw (lt-ltb (at a) 8 (omega (arith, h)), word_joined (value a), made a);
    good =
        yields_then (λ f. f ≤ 7) _ field _
        (yields_then (λ k. Unit {0}) _ byte (λ f r. check (ltb f 8) 2 f r) (yields_any byte) (λ f _. yields_check (λ k. k ≤ 7) _ 2 f (λ e. omega (arith, ltb-true f 8 e))))
        (λ f small. yields_then (λ x. Unit {0}) _ word _ (yields_any word) (λ x _. yields_read _ (make f x) (omega (arith, at-made f x))));
    spelt =
        spells_then (λ f u. u ≡ f ∷ []) (λ f a w. f ∷ w ≡ at a ∷ word_bytes (value a)) _ field _
        (λ f a u w p q. ap (λ l. l ++ w) p ∙ q) spells_field spells_value;
    streams =
        streams_then field _ (streams_then byte _ streams_byte (λ f. streams_check (ltb f 8) 2 f)) (λ f. streams_then word _ streams_word (λ x. streams_read (make f x)));
  }

want_form : Form want want_bytes GoodWant
unfolding pair
want_form = pair_form (λ f x. record { at = f; value = x }) (λ w. w.at) (λ w. w.value) (λ w. refl) (λ f x. refl) (λ f x. refl)

setting_form : Form setting setting_bytes GoodSetting
unfolding pair
setting_form = pair_form (λ f x. record { at = f; value = x }) (λ s. s.at) (λ s. s.value) (λ s. refl) (λ f x. refl) (λ f x. refl)

-- Wants, outs, rules.
wants_form : Form wants wants_bytes (λ ws. (length ws ≤ 8) × Each GoodWant ws)
wants_form = counted_form want want_bytes GoodWant want_form byte (λ k. k ∷ []) a_byte 8 2

out_form : Form out out_bytes GoodOut
out_form =
    form_as out out_bytes (λ o. (length o ≤ 8) × Each GoodSetting o) GoodOut (λ o g. (g.few, g.settings)) (λ o h. record { few = h.0; settings = h.1 })
    (counted_form setting setting_bytes GoodSetting setting_form byte (λ k. k ∷ []) a_byte 8 2)

outs_form : Form outs outs_bytes (λ os. (length os ≤ 16) × Each GoodOut os)
outs_form = counted_form out out_bytes GoodOut out_form byte (λ k. k ∷ []) a_byte 16 6

-- outs behind the wants ws
behind : List Want → List ℕ → Got Rule
behind ws r = and_then (outs r) (λ os q. Read (record { wants = ws; outs = os }) q)

spells_behind : (ws : List Want) → Spells (behind ws) (λ r used. wants_bytes ws ++ used ≡ rule_bytes r)
unfolding behind
spells_behind ws =
    spells_then (λ os u. u ≡ outs_bytes os) (λ os r w. (record { wants = ws; outs = os } ≡ r) × (w ≡ [])) _ outs _
    (λ os r u w p q. ap (λ l. wants_bytes ws ++ l) (then_nothing u w q.1 ∙ p) ∙ ap rule_bytes q.0) outs_form.spelt
    (λ os. spells_read (λ r w. (record { wants = ws; outs = os } ≡ r) × (w ≡ [])) _ (refl, refl))

rule_form : Form rule rule_bytes GoodRule
unfolding behind
rule_form = record {
  back = λ r rest g.
      ap (λ l. and_then (wants l) behind) (append_assoc (wants_bytes r.wants) (outs_bytes r.outs) rest)
      ∙ ap (λ o. and_then o behind) (wants_form.back r.wants (outs_bytes r.outs ++ rest) (g.few_wants, g.wants))
      ∙ ap (λ o. and_then o (λ os q. Read (record { wants = r.wants; outs = os }) q)) (outs_form.back r.outs rest (g.few_outs, g.outs));
  good =
      yields_then _ GoodRule wants _ wants_form.good (λ ws w. yields_then _ GoodRule outs _ outs_form.good
      (λ os o. yields_read GoodRule (record { wants = ws; outs = os }) (record { few_wants = w.0; wants = w.1; few_outs = o.0; outs = o.1 })));
  spelt =
      spells_then (λ ws u. u ≡ wants_bytes ws) (λ ws r w. wants_bytes ws ++ w ≡ rule_bytes r) _ wants behind
      (λ ws r u w p q. ap (λ l. l ++ w) p ∙ q) wants_form.spelt spells_behind;
  streams = streams_then wants _ wants_form.streams (λ ws. streams_then outs _ outs_form.streams (λ os. streams_read (record { wants = ws; outs = os })));
}

table_form : Form table table_bytes Good
table_form =
    form_as table table_bytes (λ t. (length t ≤ 2048) × Each GoodRule t) Good (λ t g. (g.few, g.rules)) (λ t h. record { few = h.0; rules = h.1 })
    (counted_form rule rule_bytes GoodRule rule_form word word_bytes a_word 2048 7)

pub table_good : Yields table Good
table_good = table_form.good

pub reads_back : ReadsBack
reads_back t rest g = table_form.back t rest g

pub writes_back : WritesBack
writes_back bs rest t clean e =
    let spelt = table_form.spelt bs t rest clean e in
    (table_good bs t rest e, spelt.whole ∙ ap (λ l. l ++ rest) spelt.is)

pub no_front : NoFront
no_front bs t k e lt = go (table bs) refl e
  where
    front : (x : Table) → Consumes table bs x [] → alone (take k bs) ≡ Bad 1
    front x c =
        let whole = c.whole ∙ append-nil c.used in
        ap (λ l. and_then (table (take k l)) ended) whole ∙ ap (λ g. and_then g ended) (c.cut k (omega (arith, ap length whole)))

    go : (g : Got Table) → table bs ≡ g → and_then g ended ≡ Read t [] → alone (take k bs) ≡ Bad 1
    go (Read x []) is h = front x (table_form.streams bs x [] is)
    go (Read x (b ∷ rest)) is h = never h
    go (Bad m) is h = never h
