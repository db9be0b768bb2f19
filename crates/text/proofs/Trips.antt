-- Reading and writing texts undo each other.
use Rattle.std.proofs.Common.{◌≡◌, ℕ, zero, suc, ◌+◌, ◌*◌, ◌/◌, ◌%◌, ◌<◌, ◌≤◌, Bool, true, ◌&&◌, eqb, ltb, leb, List, [], ◌∷◌, ◌++◌, length, take, sym, refl, ap, ◌∙◌, subst, arith}
use Rattle.std.specs.List.{flat_map}
use Rattle.std.proofs.lemmas.List.{append-nil, append_assoc}
use Rattle.std.proofs.lemmas.Bool.{and_parts, lt-ltb, le-leb, ltb-true, leb-true, eqb-true}
use Rattle.octets.specs.Parse.{Got, Read, Bad, and_then, check, byte, word, ended, word_bytes}
use Rattle.octets.specs.Streams.{Consumes, Streams}
use Rattle.octets.proofs.Streams.{never, streams_read, streams_bad, streams_byte, streams_word, streams_check, streams_cond, streams_then}
use Rattle.octets.proofs.Spells.{Spells, spells_read, spells_bad, spells_byte, spells_word, spells_check, spells_cond, spells_then}
use Rattle.octets.proofs.Yields.{Yields, yields_read, yields_check, yields_then, yields_any}
use Rattle.text.specs.declared.node.Node.{Node}
use Rattle.text.specs.declared.node.Node.TheVariants.{Always, Is, Both, Either, Not, Keep, Put, And, Then}
use Rattle.text.specs.declared.node.Sort.{Sort}
use Rattle.text.specs.declared.node.Sort.TheVariants.{Test, Policy}
use Rattle.text.specs.Nodes.{fitting, fits, sound}
use Rattle.text.specs.Format.{field, operand, valued, unary, binary, of_kind, node, nodes, listed, Assignment, text, alone, node_bytes, listed_bytes, text_bytes, valued_bytes, unary_bytes, binary_bytes}
use Rattle.text.specs.Laws.{Good, ReadsBack, WritesBack, NoFront}
use Rattle.text.proofs.Reading.{nodes_grow}

word_joined : (v : ℕ) → v / 256 * 256 + v % 256 ≡ v
word_joined v = omega arith

-- What was written reads as the same node, nodes, text.
one_back : (want : Sort) (make : ℕ → Node) (ns : List Node) (a : ℕ) (rest : List ℕ) → fitting want ns a ≡ true → unary want make ns (word_bytes a ++ rest) ≡ Read (make a) rest
one_back want make ns a rest h = rw (word_joined a, h)

two_back : (want : Sort) (make : ℕ → ℕ → Node) (ns : List Node) (a b : ℕ) (rest : List ℕ) → (fitting want ns a && fitting want ns b) ≡ true →
    binary want make ns ((word_bytes a ++ word_bytes b) ++ rest) ≡ Read (make a b) rest
two_back want make ns a b rest h =
    let p = and_parts (fitting want ns a) (fitting want ns b) h in
    rw (word_joined a, p.0, word_joined b, p.1)

value_back : (make : ℕ → ℕ → Node) (f x : ℕ) (rest : List ℕ) → leb f 7 ≡ true → valued make (f ∷ (word_bytes x ++ rest)) ≡ Read (make f x) rest
value_back make f x rest h = rw (lt-ltb f 8 (omega (arith, leb-true f 7 h)), word_joined x)

node_back : (ns : List Node) (n : Node) (rest : List ℕ) → fits ns n ≡ true → node ns (node_bytes n ++ rest) ≡ Read n rest
node_back ns Always rest h = refl
node_back ns (Is f x) rest h = value_back Is f x rest h
node_back ns (Both a b) rest h = two_back Test Both ns a b rest h
node_back ns (Either a b) rest h = two_back Test Either ns a b rest h
node_back ns (Not a) rest h = one_back Test Not ns a rest h
node_back ns (Keep a) rest h = one_back Test Keep ns a rest h
node_back ns (Put f x) rest h = value_back Put f x rest h
node_back ns (And a b) rest h = two_back Policy And ns a b rest h
node_back ns (Then a b) rest h = two_back Policy Then ns a b rest h

nodes_back : (ns ms : List Node) (rest : List ℕ) → sound ns ms ≡ true → nodes (length ms) ns (flat_map node_bytes ms ++ rest) ≡ Read (ns ++ ms) rest
unfolding sound
nodes_back ns [] rest h = ap (λ l. Read l rest) (sym (append-nil ns))
nodes_back ns (m ∷ ms) rest h =
    let p = and_parts (fits ns m) (sound (ns ++ m ∷ []) ms) h in
    ap (λ l. and_then (node ns l) (λ n r. nodes (length ms) (ns ++ n ∷ []) r)) (append_assoc (node_bytes m) (flat_map node_bytes ms) rest)
    ∙ ap (λ g. and_then g (λ n r. nodes (length ms) (ns ++ n ∷ []) r)) (node_back ns m (flat_map node_bytes ms ++ rest) p.0)
    ∙ nodes_back (ns ++ m ∷ []) ms rest p.1 ∙ ap (λ l. Read l rest) (append_assoc ns (m ∷ []) ms)

pub listed_back : (ns : List Node) (rest : List ℕ) → 1 ≤ length ns → length ns ≤ 512 → sound [] ns ≡ true → listed (listed_bytes ns ++ rest) ≡ Read ns rest
listed_back ns rest some few so = rw (word_joined (length ns), le-leb 1 (length ns) some, le-leb (length ns) 512 few) (nodes_back [] ns rest so)

pub reads_back : ReadsBack
reads_back n a rest g =
    rw (lt-ltb a.switch n g.there, word_joined (length a.nodes), le-leb 1 (length a.nodes) g.some, le-leb (length a.nodes) 512 g.few)
    (ap (λ o. and_then o (λ ns t. Read (record { switch = a.switch; nodes = ns }) t)) (nodes_back [] a.nodes rest g.sound))

-- What reads as a text is good.
in_range_lem : (k : ℕ) → (leb 1 k && leb k 512) ≡ true → (1 ≤ k) × (k ≤ 512)
in_range_lem k h = let p = and_parts (leb 1 k) (leb k 512) h in (leb-true 1 k p.0, leb-true k 512 p.1)

text_good : (n : ℕ) → Yields (text n) (Good n)
unfolding sound
text_good n =
    yields_then (λ i. Unit {0}) _ byte _ (yields_any byte) (λ i _.
    yields_then (λ j. j < n) _ (λ r. check (ltb i n) 2 i r) _ (yields_check _ (ltb i n) 2 i (ltb-true i n)) (λ j lt.
    yields_then (λ k. Unit {0}) _ word _ (yields_any word) (λ k _.
    yields_then (λ m. (1 ≤ m) × (m ≤ 512)) _ (λ p. check (leb 1 k && leb k 512) 2 k p) _ (yields_check _ _ 2 k (in_range_lem k)) (λ m range.
    yields_then _ _ (nodes m []) _ (nodes_grow m []) (λ ns grown.
    yields_read (Good n) (record { switch = j; nodes = ns })
    (record { there = lt; some = omega (arith, grown.0, range.0); few = omega (arith, grown.0, range.1); sound = grown.1 refl }))))))

-- What was read is spelt as it is written.
then_nothing : (u w : List ℕ) → w ≡ [] → u ++ w ≡ u
then_nothing u w e = ap (λ l. u ++ l) e ∙ append-nil u

-- a number that was tested is spelt as the number
Same : ℕ → ℕ → List ℕ → Type 0
Same k m w = (k ≡ m) × (w ≡ [])

spells_tested : (spell : ℕ → List ℕ) (reader : List ℕ → Got ℕ) (test : ℕ → Bool) (fault : ℕ) → Spells reader (λ k u. u ≡ spell k) →
    Spells (λ bs. and_then (reader bs) (λ k r. check (test k) fault k r)) (λ k u. u ≡ spell k)
unfolding Same
spells_tested spell reader test fault h =
    spells_then (λ k u. u ≡ spell k) Same _ reader (λ k r. check (test k) fault k r)
    (λ k m u w p q. then_nothing u w q.1 ∙ p ∙ ap spell q.0) h
    (λ k. spells_check (Same k) (test k) fault k (refl, refl))

-- a last number behind what stands in front of it
spells_last : (front : List ℕ) (make : ℕ → Node) (reader : List ℕ → Got ℕ) → ((x : ℕ) → front ++ word_bytes x ≡ node_bytes (make x)) →
    Spells reader (λ k u. u ≡ word_bytes k) → Spells (λ bs. and_then (reader bs) (λ x q. Read (make x) q)) (λ n u. front ++ u ≡ node_bytes n)
spells_last front make reader is h =
    spells_then (λ k u. u ≡ word_bytes k) (λ x n w. (make x ≡ n) × (w ≡ [])) _ reader (λ x q. Read (make x) q)
    (λ x n u w p q. ap (λ l. front ++ l) (then_nothing u w q.1 ∙ p) ∙ is x ∙ ap node_bytes q.0) h
    (λ x. spells_read (λ n w. (make x ≡ n) × (w ≡ [])) (make x) (refl, refl))

-- the bytes behind the kind k
abbrev Behind : ℕ → Node → List ℕ → Type 0
Behind k n used = k ∷ used ≡ node_bytes n

spells_valued : (k : ℕ) (make : ℕ → ℕ → Node) → ((f x : ℕ) → valued_bytes k f x ≡ node_bytes (make f x)) → Spells (valued make) (Behind k)
spells_valued k make is =
    spells_then (λ f u. u ≡ f ∷ []) (λ f n w. k ∷ (f ∷ w) ≡ node_bytes n) _ field _
    (λ f n u w p q. ap (λ l. k ∷ (l ++ w)) p ∙ q) (spells_tested (λ f. f ∷ []) byte (λ f. ltb f 8) 2 spells_byte)
    (λ f. spells_last (k ∷ (f ∷ [])) (make f) word (is f) spells_word)

module _ (ns : List Node) where
  spells_operand : (want : Sort) → Spells (operand want ns) (λ k u. u ≡ word_bytes k)
  spells_operand want = spells_tested word_bytes word (fitting want ns) 3 spells_word

  spells_unary : (k : ℕ) (want : Sort) (make : ℕ → Node) → ((a : ℕ) → unary_bytes k a ≡ node_bytes (make a)) → Spells (unary want make ns) (Behind k)
  spells_unary k want make is = spells_last (k ∷ []) make (operand want ns) is (spells_operand want)

  spells_binary : (k : ℕ) (want : Sort) (make : ℕ → ℕ → Node) → ((a b : ℕ) → binary_bytes k a b ≡ node_bytes (make a b)) → Spells (binary want make ns) (Behind k)
  spells_binary k want make is =
      spells_then (λ a u. u ≡ word_bytes a) (λ a n w. k ∷ (word_bytes a ++ w) ≡ node_bytes n) _ (operand want ns) _
      (λ a n u w p q. ap (λ l. k ∷ (l ++ w)) p ∙ q) (spells_operand want)
      (λ a. spells_last (k ∷ word_bytes a) (make a) (operand want ns) (is a) (spells_operand want))

  of_kind_lem : (reader : List ℕ → Got Node) (k j : ℕ) → Spells reader (Behind j) → eqb k j ≡ true → Spells reader (Behind k)
  of_kind_lem reader k j h t = subst (λ z. Spells reader (Behind z)) (sym (eqb-true k j t)) h

  spells_kind : (k : ℕ) → Spells (of_kind ns k) (Behind k)
  spells_kind k =
      spells_cond _ (eqb k 1) _ _ (of_kind_lem _ k 1 (spells_read (Behind 1) Always refl))
      (spells_cond _ (eqb k 2) _ _ (of_kind_lem _ k 2 (spells_valued 2 Is (λ f x. refl)))
      (spells_cond _ (eqb k 3) _ _ (of_kind_lem _ k 3 (spells_binary 3 Test Both (λ a b. refl)))
      (spells_cond _ (eqb k 4) _ _ (of_kind_lem _ k 4 (spells_binary 4 Test Either (λ a b. refl)))
      (spells_cond _ (eqb k 5) _ _ (of_kind_lem _ k 5 (spells_unary 5 Test Not (λ a. refl)))
      (spells_cond _ (eqb k 6) _ _ (of_kind_lem _ k 6 (spells_unary 6 Test Keep (λ a. refl)))
      (spells_cond _ (eqb k 7) _ _ (of_kind_lem _ k 7 (spells_valued 7 Put (λ f x. refl)))
      (spells_cond _ (eqb k 8) _ _ (of_kind_lem _ k 8 (spells_binary 8 Policy And (λ a b. refl)))
      (spells_cond _ (eqb k 9) _ _ (of_kind_lem _ k 9 (spells_binary 9 Policy Then (λ a b. refl)))
      (spells_bad (Behind k) 1)))))))))

  spells_node : Spells (node ns) (λ n used. used ≡ node_bytes n)
  spells_node = spells_then (λ k u. u ≡ k ∷ []) Behind _ byte (of_kind ns) (λ k n u w p q. ap (λ l. l ++ w) p ∙ q) spells_byte spells_kind

-- k nodes behind those of ns
abbrev Further : ℕ → List Node → List Node → List ℕ → Type 0
Further k ns all used = (ms : List Node) × (all ≡ ns ++ ms) × (used ≡ flat_map node_bytes ms) × (length ms ≡ k)

spells_nodes : (k : ℕ) (ns : List Node) → Spells (nodes k ns) (Further k ns)
spells_nodes zero ns = spells_read (Further 0 ns) ns ([], sym (append-nil ns), refl, refl)
spells_nodes (suc k) ns =
    spells_then (λ n u. u ≡ node_bytes n) (λ n. Further k (ns ++ n ∷ [])) _ (node ns) _
    (λ n all u w p q. (n ∷ q.0, q.1 ∙ append_assoc ns (n ∷ []) q.0, λ i. p i ++ q.2 i, ap suc q.3)) (spells_node ns)
    (λ n. spells_nodes k (ns ++ n ∷ []))

-- m nodes for the switch j
Listed : ℕ → ℕ → Assignment → List ℕ → Type 0
Listed j m a used = (a.switch ≡ j) × (used ≡ flat_map node_bytes a.nodes) × (length a.nodes ≡ m)

-- nodes for the switch j, with their number
Counted : ℕ → Assignment → List ℕ → Type 0
Counted j a used = (a.switch ≡ j) × (used ≡ word_bytes (length a.nodes) ++ flat_map node_bytes a.nodes)

spells_listed : (j m : ℕ) → Spells (λ o. and_then (nodes m [] o) (λ ns t. Read (record { switch = j; nodes = ns }) t)) (Listed j m)
unfolding Listed
spells_listed j m =
    spells_then (Further m []) (λ ns a w. (record { switch = j; nodes = ns } ≡ a) × (w ≡ [])) _ (nodes m []) _
    (λ ns a u w p q.
    let got = ap (λ z. z.nodes) (sym q.0) ∙ p.1 in
    (ap (λ z. z.switch) (sym q.0), then_nothing u w q.1 ∙ p.2 ∙ ap (flat_map node_bytes) (sym got), ap length got ∙ p.3))
    (spells_nodes m []) (λ ns. spells_read (λ a w. (record { switch = j; nodes = ns } ≡ a) × (w ≡ [])) _ (refl, refl))

spells_counted : (j : ℕ) → Spells (λ q. and_then (word q) (λ k p. and_then (check (leb 1 k && leb k 512) 2 k p) (λ m o. and_then (nodes m [] o) (λ ns t. Read (record { switch = j; nodes = ns }) t)))) (Counted j)
unfolding Same Listed Counted
spells_counted j =
    spells_then (λ k u. u ≡ word_bytes k) (λ k. Listed j k) _ word _
    (λ k a u w p q. (q.0, λ i. (p ∙ ap word_bytes (sym q.2)) i ++ q.1 i)) spells_word
    (λ k. spells_then (Same k) (λ m. Listed j m) (Listed j k) (λ p. check (leb 1 k && leb k 512) 2 k p) _
    (λ m a u w p q. (q.0, ap (λ l. l ++ w) p.1 ∙ q.1, q.2 ∙ sym p.0))
    (spells_check (Same k) _ 2 k (refl, refl)) (spells_listed j))

spells_text : (n : ℕ) → Spells (text n) (λ a used. used ≡ text_bytes a.switch a.nodes)
unfolding Same Counted
spells_text n =
    spells_then (λ i u. u ≡ i ∷ []) (λ i. Counted i) _ byte _
    (λ i a u w p q. (λ z. p z ++ q.1 z) ∙ ap (λ j. j ∷ (word_bytes (length a.nodes) ++ flat_map node_bytes a.nodes)) (sym q.0)) spells_byte
    (λ i. spells_then (Same i) (λ j. Counted j) (Counted i) (λ r. check (ltb i n) 2 i r) _
    (λ j a u w p q. (q.0 ∙ sym p.0, ap (λ l. l ++ w) p.1 ∙ q.1))
    (spells_check (Same i) _ 2 i (refl, refl)) spells_counted)

pub writes_back : WritesBack
writes_back n bs rest a clean e =
    let spelt = spells_text n bs a rest clean e in
    (text_good n bs a rest e, spelt.whole ∙ ap (λ l. l ++ rest) spelt.is)

-- No proper front of a text reads.
streams_valued : (make : ℕ → ℕ → Node) → Streams (valued make)
streams_valued make =
    streams_then field _ (streams_then byte _ streams_byte (λ f. streams_check (ltb f 8) 2 f)) (λ f. streams_then word _ streams_word (λ x. streams_read (make f x)))

module _ (ns : List Node) where
  streams_operand : (want : Sort) → Streams (operand want ns)
  streams_operand want = streams_then word _ streams_word (λ k. streams_check (fitting want ns k) 3 k)

  streams_unary : (want : Sort) (make : ℕ → Node) → Streams (unary want make ns)
  streams_unary want make = streams_then (operand want ns) _ (streams_operand want) (λ a. streams_read (make a))

  streams_binary : (want : Sort) (make : ℕ → ℕ → Node) → Streams (binary want make ns)
  streams_binary want make =
      streams_then (operand want ns) _ (streams_operand want) (λ a. streams_then (operand want ns) _ (streams_operand want) (λ b. streams_read (make a b)))

  streams_kind : (k : ℕ) → Streams (of_kind ns k)
  streams_kind k =
      streams_cond (eqb k 1) _ _ (streams_read Always)
      (streams_cond (eqb k 2) _ _ (streams_valued Is)
      (streams_cond (eqb k 3) _ _ (streams_binary Test Both)
      (streams_cond (eqb k 4) _ _ (streams_binary Test Either)
      (streams_cond (eqb k 5) _ _ (streams_unary Test Not)
      (streams_cond (eqb k 6) _ _ (streams_unary Test Keep)
      (streams_cond (eqb k 7) _ _ (streams_valued Put)
      (streams_cond (eqb k 8) _ _ (streams_binary Policy And)
      (streams_cond (eqb k 9) _ _ (streams_binary Policy Then)
      (streams_bad 1)))))))))

streams_nodes : (k : ℕ) (ns : List Node) → Streams (nodes k ns)
streams_nodes zero ns = streams_read ns
streams_nodes (suc k) ns = streams_then (node ns) _ (streams_then byte (of_kind ns) streams_byte (streams_kind ns)) (λ n. streams_nodes k (ns ++ n ∷ []))

pub streams_text : (n : ℕ) → Streams (text n)
streams_text n =
    streams_then byte _ streams_byte (λ i.
    streams_then (λ r. check (ltb i n) 2 i r) _ (streams_check _ 2 i) (λ j.
    streams_then word _ streams_word (λ k.
    streams_then (λ p. check (leb 1 k && leb k 512) 2 k p) _ (streams_check _ 2 k) (λ m.
    streams_then (nodes m []) _ (streams_nodes m []) (λ ns. streams_read (record { switch = j; nodes = ns }))))))

pub no_front : NoFront
no_front n bs a k e lt = go (text n bs) refl e
  where
    front : (x : Assignment) → Consumes (text n) bs x [] → alone n (take k bs) ≡ Bad 1
    front x c =
        let whole = c.whole ∙ append-nil c.used in
        ap (λ l. and_then (text n (take k l)) ended) whole ∙ ap (λ g. and_then g ended) (c.cut k (omega (arith, ap length whole)))

    go : (g : Got Assignment) → text n bs ≡ g → and_then g ended ≡ Read a [] → alone n (take k bs) ≡ Bad 1
    go (Read x []) is h = front x (streams_text n bs x [] is)
    go (Read x (b ∷ more)) is h = never h
    go (Bad m) is h = never h
