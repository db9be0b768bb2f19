-- The laws of orders and answers, marks and frames.
use Rattle.std.proofs.Common.{◌≡◌, ℕ, zero, suc, ◌+◌, ◌-◌, ◌*◌, ◌/◌, ◌%◌, ◌<◌, ◌≤◌, Bool, true, false, cond, ◌&&◌, eqb, ltb, leb, List, [], ◌∷◌, ◌++◌, length, get_or, drop, sym, refl, ap, ◌∙◌, subst, arith}
use Rattle.std.specs.List.{flat_map}
use Rattle.std.proofs.lemmas.List.{append-nil, append_assoc}
use Rattle.std.proofs.lemmas.Bool.{and_parts, lt-ltb, le-leb, ltb-true, leb-true, eqb-true, eq-eqb}
use Rattle.octets.specs.Parse.{Read, and_then, byte, word, word_bytes}
use Rattle.octets.specs.Streams.{Streams}
use Rattle.octets.proofs.Streams.{streams_read, streams_bad, streams_byte, streams_word, streams_cond, streams_then}
use Rattle.octets.proofs.Spells.{Spells, spells_read, spells_byte, spells_word, spells_cond, spells_then}
use Rattle.octets.proofs.Yields.{Yields, yields_read, yields_then, yields_any}
use Rattle.wire.specs.declared.order.Order.{Order}
use Rattle.wire.specs.declared.order.Order.TheVariants.{Install, Stamp, Round, Remove}
use Rattle.wire.specs.declared.order.Message.{Message}
use Rattle.wire.specs.declared.order.Message.TheVariants.{Ask, Answer}
use Rattle.wire.specs.declared.order.Letter.{Letter}
use Rattle.wire.specs.declared.mark.Mark.{Mark}
use Rattle.octets.specs.Parse.{tested, kind, between, below}
use Rattle.wire.specs.Orders.{kind_of, version_of, round_of, order_of, round_for, order, sent, of_kind, order_in, order_bytes, letter, letter_bytes}
use Rattle.wire.specs.Marks.{mark, mark_bytes}
use Rattle.wire.specs.Frames.{fields, entry, framed, cabled, frame_bytes}
use Rattle.wire.specs.Laws.{Rounded, GoodLetter, GoodMark, GoodFrame, Kinds, Orders, Marks, Frames, Outside}
use Rattle.wire.proofs.Formats.{streams_tested, spells_tested, yields_tested, Fine, fine_end, fine_bad, fine_cond, fine_on, exact}

word_joined : (v : ℕ) → v / 256 * 256 + v % 256 ≡ v
word_joined v = omega arith

abbrev one : ℕ → List ℕ
one x = x ∷ []

-- Numbers.
streams_byte_tested : (test : ℕ → Bool) (fault : ℕ) → Streams (tested byte test fault)
streams_byte_tested test fault = streams_tested byte test fault streams_byte

spells_byte_tested : (test : ℕ → Bool) (fault : ℕ) → Spells (tested byte test fault) (λ x u. u ≡ one x)
spells_byte_tested test fault = spells_tested one byte test fault spells_byte

in_range_lem : (b t k : ℕ) → (leb b k && leb k t) ≡ true → (b ≤ k) × (k ≤ t)
in_range_lem b t k e = let p = and_parts (leb b k) (leb k t) e in (leb-true b k p.0, leb-true k t p.1)

-- Orders and their kinds.
abbrev round_test : ℕ → ℕ → ℕ → Bool
round_test h k m = cond (eqb k 2) (leb 1 m && leb m h) (leb 0 m && leb m 0)

-- an order made of its parts has these parts
record Parts (h k v m : ℕ) : Type 0 where
  pub kind : kind_of (order_of k v m) ≡ k
  pub version : version_of (order_of k v m) ≡ v
  pub round : round_of (order_of k v m) ≡ m
  pub rounded : Rounded h (order_of k v m)

no_round : (m : ℕ) → (leb 0 m && leb m 0) ≡ true → 0 ≡ m
no_round m t = omega (arith, (in_range_lem 0 0 m t).1)

parts : (h k v m : ℕ) → k < 4 → round_test h k m ≡ true → Parts h k v m
parts h zero v m lt t = record { kind = refl; version = refl; round = no_round m t; rounded = tt }
parts h (suc zero) v m lt t = record { kind = refl; version = refl; round = no_round m t; rounded = tt }
parts h (suc (suc zero)) v m lt t =
    record { kind = refl; version = refl; round = refl; rounded = in_range_lem 1 h m t }
parts h (suc (suc (suc zero))) v m lt t = record { kind = refl; version = refl; round = no_round m t; rounded = tt }
parts h (suc (suc (suc (suc k)))) v m lt t = absurd (omega arith)

of_kind_lem : (k v m : ℕ) → k < 4 → kind_of (order_of k v m) ≡ k
of_kind_lem zero v m lt = refl
of_kind_lem (suc zero) v m lt = refl
of_kind_lem (suc (suc zero)) v m lt = refl
of_kind_lem (suc (suc (suc zero))) v m lt = refl
of_kind_lem (suc (suc (suc (suc k)))) v m lt = absurd (omega arith)

of_order_lem : (o : Order) → (kind_of o < 4) × (order_of (kind_of o) (version_of o) (round_of o) ≡ o)
of_order_lem (Install v) = (omega arith, refl)
of_order_lem (Stamp v) = (omega arith, refl)
of_order_lem (Round v m) = (omega arith, refl)
of_order_lem (Remove v) = (omega arith, refl)

pub kinds : Kinds
kinds = record { of_order = of_order_lem; of_kind = of_kind_lem }

-- Orders and answers.
module _ (n h : ℕ) where
  order_back : (o : Order) (i : ℕ) (rest : List ℕ) → i < n → Rounded h o → order n h (kind_of o) (order_bytes o i ++ rest) ≡ Read (o, i) rest
  order_back (Install v) i rest lt f = rw (word_joined v, lt-ltb i n lt)
  order_back (Stamp v) i rest lt f = rw (word_joined v, lt-ltb i n lt)
  order_back (Round v m) i rest lt f = rw (le-leb 1 m f.0, le-leb m h f.1, word_joined v, lt-ltb i n lt)
  order_back (Remove v) i rest lt f = rw (word_joined v, lt-ltb i n lt)

  letter_back : (l : Letter) (rest : List ℕ) → GoodLetter n h l → letter n h (letter_bytes l ++ rest) ≡ Read l rest
  letter_back l rest g = go l.message l.switch g.there g.rounded
    where
      asked : (o : Order) (i : ℕ) → order n h (kind_of o) (order_bytes o i ++ rest) ≡ Read (o, i) rest →
          letter n h (letter_bytes (sent Ask (o, i)) ++ rest) ≡ Read (sent Ask (o, i)) rest
      asked (Install v) i e = ap (λ g. and_then g (λ o r. Read (sent Ask o) r)) e
      asked (Stamp v) i e = ap (λ g. and_then g (λ o r. Read (sent Ask o) r)) e
      asked (Round v m) i e = ap (λ g. and_then g (λ o r. Read (sent Ask o) r)) e
      asked (Remove v) i e = ap (λ g. and_then g (λ o r. Read (sent Ask o) r)) e

      answered : (o : Order) (i : ℕ) → order n h (kind_of o) (order_bytes o i ++ rest) ≡ Read (o, i) rest →
          letter n h (letter_bytes (sent Answer (o, i)) ++ rest) ≡ Read (sent Answer (o, i)) rest
      answered (Install v) i e = ap (λ g. and_then g (λ o r. Read (sent Answer o) r)) e
      answered (Stamp v) i e = ap (λ g. and_then g (λ o r. Read (sent Answer o) r)) e
      answered (Round v m) i e = ap (λ g. and_then g (λ o r. Read (sent Answer o) r)) e
      answered (Remove v) i e = ap (λ g. and_then g (λ o r. Read (sent Answer o) r)) e

      go : (m : Message) (i : ℕ) → i < n → Rounded h (order_in m) →
          letter n h (letter_bytes (record { message = m; switch = i }) ++ rest) ≡ Read (record { message = m; switch = i }) rest
      go (Ask o) i lt f = asked o i (order_back o i rest lt f)
      go (Answer o) i lt f = answered o i (order_back o i rest lt f)

  streams_round : (k : ℕ) → Streams (round_for h k)
  streams_round k = streams_cond (eqb k 2) _ _ (streams_byte_tested (λ m. leb 1 m && leb m h) 2) (streams_byte_tested (λ m. leb 0 m && leb m 0) 2)

  spells_round : (k : ℕ) → Spells (round_for h k) (λ x u. u ≡ one x)
  spells_round k = spells_cond _ (eqb k 2) _ _ (λ t. spells_byte_tested (λ m. leb 1 m && leb m h) 2) (spells_byte_tested (λ m. leb 0 m && leb m 0) 2)

  yields_round : (k : ℕ) → Yields (round_for h k) (λ m. round_test h k m ≡ true)
  yields_round k = go (eqb k 2)
    where
      go : (t : Bool) → Yields (λ bs. cond t (between 1 h bs) (between 0 0 bs)) (λ m. cond t (leb 1 m && leb m h) (leb 0 m && leb m 0) ≡ true)
      go true = yields_tested byte (λ m. leb 1 m && leb m h) 2
      go false = yields_tested byte (λ m. leb 0 m && leb m 0) 2

  streams_order : (k : ℕ) → Streams (order n h k)
  streams_order k =
      streams_then word _ streams_word (λ v.
      streams_then (round_for h k) _ (streams_round k) (λ m.
      streams_then (below n) _ (streams_byte_tested (λ i. ltb i n) 2) (λ i. streams_read (order_of k v m, i))))

  -- an order of kind k for a switch that is there
  record Kept (k : ℕ) (o : Order × ℕ) : Type 0 where
    pub kind : kind_of o.0 ≡ k
    pub there : o.1 < n
    pub rounded : Rounded h o.0

  abbrev written : Order × ℕ → List ℕ
  written o = order_bytes o.0 o.1

  fine_order : (k : ℕ) → k < 4 → Fine [] written (Kept k) (order n h k)
  fine_order k lt =
      fine_on written (Kept k) [] word_bytes (λ v. Unit {0}) word _ spells_word (yields_any word) (λ v _.
      fine_on written (Kept k) (word_bytes v) one (λ m. round_test h k m ≡ true) (round_for h k) _ (spells_round k) (yields_round k) (λ m t.
      let made = parts h k v m lt t in
      fine_on written (Kept k) (word_bytes v ++ one m) one (λ i. ltb i n ≡ true) (below n) _ (spells_byte_tested (λ i. ltb i n) 2) (yields_tested byte (λ i. ltb i n) 2) (λ i there.
      fine_end written (Kept k) (v / 256 ∷ (v % 256 ∷ (m ∷ (i ∷ [])))) (order_of k v m, i)
      (λ z. sym made.version z / 256 ∷ (sym made.version z % 256 ∷ (sym made.round z ∷ (i ∷ []))))
      (record { kind = made.kind; there = ltb-true i n there; rounded = made.rounded }))))

  streams_sent : (make : Order → Message) (k : ℕ) → Streams (λ bs. and_then (order n h k bs) (λ o r. Read (sent make o) r))
  streams_sent make k = streams_then (order n h k) _ (streams_order k) (λ o. streams_read (sent make o))

  streams_letter : Streams (letter n h)
  streams_letter =
      streams_then byte (of_kind n h) streams_byte (λ k.
      streams_cond (leb 16 k && leb k 19) _ _ (streams_sent Ask (k - 16))
      (streams_cond (leb 48 k && leb k 51) _ _ (streams_sent Answer (k - 48)) (streams_bad 1)))

  fine_sent : (make : Order → Message) (b k : ℕ) → (b ≤ k) → (k - b < 4) →
      ((o : Order × ℕ) → (b + kind_of o.0) ∷ written o ≡ letter_bytes (sent make o)) → ((o : Order) → order_in (make o) ≡ o) →
      Fine (one k) letter_bytes (GoodLetter n h) (λ bs. and_then (order n h (k - b) bs) (λ o r. Read (sent make o) r))
  fine_sent make b k le lt is inside =
      let part = fine_order (k - b) lt in
      fine_on letter_bytes (GoodLetter n h) (one k) written (Kept (k - b)) (order n h (k - b)) _ part.spells part.yields (λ o kept.
      let same : k ≡ b + kind_of o.0 = omega (arith, kept.kind) in
      fine_end letter_bytes (GoodLetter n h) (k ∷ written o) (sent make o) (ap (λ z. z ∷ written o) same ∙ is o)
      (record { there = kept.there; rounded = subst (Rounded h) (sym (inside o.0)) kept.rounded }))

  fine_letter : Fine [] letter_bytes (GoodLetter n h) (letter n h)
  fine_letter =
      fine_on letter_bytes (GoodLetter n h) [] one (λ k. Unit {0}) byte (of_kind n h) spells_byte (yields_any byte) (λ k _.
      fine_cond letter_bytes (GoodLetter n h) (one k) (leb 16 k && leb k 19) _ _ (λ t. let p = in_range_lem 16 19 k t in fine_sent Ask 16 k p.0 (omega (arith, p.0, p.1)) (λ o. refl) (λ o. refl))
      (fine_cond letter_bytes (GoodLetter n h) (one k) (leb 48 k && leb k 51) _ _ (λ t. let p = in_range_lem 48 51 k t in fine_sent Answer 48 k p.0 (omega (arith, p.0, p.1)) (λ o. refl) (λ o. refl))
      (fine_bad letter_bytes (GoodLetter n h) (one k) 1)))

pub orders : Orders
orders n h = exact (letter n h) letter_bytes (GoodLetter n h) (streams_letter n h) (fine_letter n h) (letter_back n h)

-- Marks.
mark_back : (h : ℕ) (m : Mark) (rest : List ℕ) → GoodMark h m → mark h (mark_bytes m ++ rest) ≡ Read m rest
mark_back h m rest g = rw (word_joined m.version, le-leb 1 m.round g.some, le-leb m.round h g.most)

streams_mark : (h : ℕ) → Streams (mark h)
streams_mark h =
    streams_then (kind 65) _ (streams_byte_tested (λ k. eqb k 65) 1) (λ k.
    streams_then word _ streams_word (λ v.
    streams_then (between 1 h) _ (streams_byte_tested (λ m. leb 1 m && leb m h) 2) (λ m. streams_read (record { version = v; round = m }))))

fine_mark : (h : ℕ) → Fine [] mark_bytes (GoodMark h) (mark h)
fine_mark h =
    fine_on mark_bytes (GoodMark h) [] one (λ k. eqb k 65 ≡ true) (kind 65) _ (spells_byte_tested (λ k. eqb k 65) 1) (yields_tested byte (λ k. eqb k 65) 1) (λ k is.
    fine_on mark_bytes (GoodMark h) (one k) word_bytes (λ v. Unit {0}) word _ spells_word (yields_any word) (λ v _.
    fine_on mark_bytes (GoodMark h) (k ∷ word_bytes v) one (λ m. (leb 1 m && leb m h) ≡ true) (between 1 h) _
    (spells_byte_tested (λ m. leb 1 m && leb m h) 2) (yields_tested byte (λ m. leb 1 m && leb m h) 2) (λ m t.
    let p = in_range_lem 1 h m t in
    fine_end mark_bytes (GoodMark h) (k ∷ (word_bytes v ++ one m)) (record { version = v; round = m })
    (ap (λ j. j ∷ (word_bytes v ++ one m)) (eqb-true k 65 is)) (record { some = p.0; most = p.1 }))))

pub marks : Marks
marks h = exact (mark h) mark_bytes (GoodMark h) (streams_mark h) (fine_mark h) (mark_back h)

-- Frames.
fields_back : (ps ms : List ℕ) (rest : List ℕ) → fields (length ms) ps (flat_map word_bytes ms ++ rest) ≡ Read (ps ++ ms) rest
fields_back ps [] rest = ap (λ l. Read l rest) (sym (append-nil ps))
fields_back ps (m ∷ ms) rest =
    rw (word_joined m) (fields_back (ps ++ m ∷ []) ms rest) ∙ ap (λ l. Read l rest) (append_assoc ps (m ∷ []) ms)

streams_fields : (k : ℕ) (ps : List ℕ) → Streams (fields k ps)
streams_fields zero ps = streams_read ps
streams_fields (suc k) ps = streams_then word _ streams_word (λ x. streams_fields k (ps ++ x ∷ []))

-- k fields behind those of ps
record Further (k : ℕ) (ps all : List ℕ) : Type 0 where
  pub more : List ℕ
  pub is : all ≡ ps ++ more
  pub many : length more ≡ k

yields_fields : (k : ℕ) (ps : List ℕ) → Yields (fields k ps) (Further k ps)
yields_fields zero ps = yields_read (Further 0 ps) ps (record { more = []; is = sym (append-nil ps); many = refl })
yields_fields (suc k) ps =
    yields_then (λ x. Unit {0}) _ word _ (yields_any word) (λ x _ bs all rest e.
    let f = yields_fields k (ps ++ x ∷ []) bs all rest e in
    record { more = x ∷ f.more; is = f.is ∙ append_assoc ps (x ∷ []) f.more; many = ap suc f.many })

-- the bytes of the fields behind those of ps
record Spelling (ps all used : List ℕ) : Type 0 where
  pub more : List ℕ
  pub is : all ≡ ps ++ more
  pub by : used ≡ flat_map word_bytes more

spells_fields : (k : ℕ) (ps : List ℕ) → Spells (fields k ps) (Spelling ps)
spells_fields zero ps = spells_read (Spelling ps) ps (record { more = []; is = sym (append-nil ps); by = refl })
spells_fields (suc k) ps =
    spells_then (λ x u. u ≡ word_bytes x) (λ x. Spelling (ps ++ x ∷ [])) _ word _
    (λ x all u w p q. record { more = x ∷ q.more; is = q.is ∙ append_assoc ps (x ∷ []) q.more; by = λ z. p z ++ q.by z }) spells_word
    (λ x. spells_fields k (ps ++ x ∷ []))

abbrev behind : List ℕ → List ℕ
behind all = flat_map word_bytes (drop 1 all)

spells_behind : (k x : ℕ) → Spells (fields k (x ∷ [])) (λ all u. u ≡ behind all)
spells_behind k x bs all rest clean e =
    let s = spells_fields k (x ∷ []) bs all rest clean e in
    record { used = s.used; whole = s.whole; is = s.is.by ∙ ap behind (sym s.is.is); clean = s.clean }

module _ (h port : ℕ) where
  -- a frame has its first field and then the others
  first_back : (v t : ℕ) (ps rest : List ℕ) → length ps ≡ 8 → get_or ps 0 0 ≡ port → t < h → cabled h port (frame_bytes (framed v t ps) ++ rest) ≡ Read (framed v t ps) rest
  first_back v t [] rest e i lt = absurd (omega (arith, e))
  first_back v t (x ∷ ps) rest e i lt =
      let seven : length ps ≡ 7 = omega (arith, e) in
      rw (word_joined v, lt-ltb t h lt, word_joined x, eq-eqb x port i)
      (ap (λ g. and_then g (λ all r. Read (framed v t all) r)) (subst (λ k. fields k (x ∷ []) (flat_map word_bytes ps ++ rest) ≡ Read (x ∷ ps) rest) seven (fields_back (x ∷ []) ps rest)))

  streams_frame : Streams (cabled h port)
  streams_frame =
      streams_then (kind 64) _ (streams_byte_tested (λ k. eqb k 64) 1) (λ k.
      streams_then word _ streams_word (λ v.
      streams_then (below h) _ (streams_byte_tested (λ t. ltb t h) 2) (λ t.
      streams_then (entry port) _ (streams_tested word (λ x. eqb x port) 2 streams_word) (λ x.
      streams_then (fields 7 (x ∷ [])) _ (streams_fields 7 (x ∷ [])) (λ ps. streams_read (framed v t ps))))))

  fine_frame : Fine [] frame_bytes (GoodFrame h port) (cabled h port)
  fine_frame =
      fine_on frame_bytes (GoodFrame h port) [] one (λ k. eqb k 64 ≡ true) (kind 64) _ (spells_byte_tested (λ k. eqb k 64) 1) (yields_tested byte (λ k. eqb k 64) 1) (λ k is.
      fine_on frame_bytes (GoodFrame h port) (one k) word_bytes (λ v. Unit {0}) word _ spells_word (yields_any word) (λ v _.
      fine_on frame_bytes (GoodFrame h port) (k ∷ word_bytes v) one (λ t. ltb t h ≡ true) (below h) _ (spells_byte_tested (λ t. ltb t h) 2) (yields_tested byte (λ t. ltb t h) 2) (λ t few.
      fine_on frame_bytes (GoodFrame h port) (k ∷ (word_bytes v ++ one t)) word_bytes (λ x. eqb x port ≡ true) (entry port) _
      (spells_tested word_bytes word (λ x. eqb x port) 2 spells_word) (yields_tested word (λ x. eqb x port) 2) (λ x at.
      fine_on frame_bytes (GoodFrame h port) (k ∷ (word_bytes v ++ t ∷ word_bytes x)) behind (Further 7 (x ∷ [])) (fields 7 (x ∷ [])) _ (spells_behind 7 x) (yields_fields 7 (x ∷ [])) (λ all f.
      fine_end frame_bytes (GoodFrame h port) (k ∷ (word_bytes v ++ t ∷ (word_bytes x ++ behind all))) (framed v t all)
      (ap (λ j. j ∷ (word_bytes v ++ t ∷ (word_bytes x ++ behind all))) (eqb-true k 64 is)
      ∙ ap (λ l. 64 ∷ (word_bytes v ++ t ∷ (word_bytes x ++ behind l))) f.is
      ∙ ap (λ l. 64 ∷ (word_bytes v ++ t ∷ flat_map word_bytes l)) (sym f.is))
      (record { eight = ap length f.is ∙ ap suc f.many; entry = ap (λ l. get_or l 0 0) f.is ∙ eqb-true x port at; few = ltb-true t h few }))))))

pub frames : Frames
frames h port =
    exact (cabled h port) frame_bytes (GoodFrame h port) (streams_frame h port) (fine_frame h port)
    (λ f rest g. first_back h port f.version f.hops f.packet.fields rest g.eight g.entry g.few)

pub from_outside : Outside
from_outside f rest e =
    ap (λ g. and_then g (λ ps r. Read (record { fields = ps }) r))
    (subst (λ k. fields k [] (flat_map word_bytes f.packet.fields ++ rest) ≡ Read f.packet.fields rest) e (fields_back [] f.packet.fields rest))
