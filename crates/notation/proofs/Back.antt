-- What is written is read back.
use Rattle.std.proofs.Common.{◌≡◌, ℕ, ◌+◌, ◌^◌, ◌<◌, ◌≤◌, true, ◌&&◌, leb, List, [], ◌∷◌, ◌++◌, map, length, Some, decimal, sym, refl, ap, ◌∙◌, arith}
use Rattle.std.specs.List.{AllByRecursion}
use Rattle.std.proofs.lemmas.List.{append-nil, append_assoc, length_push, length-append}
use Rattle.std.proofs.lemmas.Bool.{and_parts, leb-true, le-leb}
use Rattle.text.specs.declared.node.Node.{Node}
use Rattle.text.specs.declared.node.Node.TheVariants as node
use Rattle.text.specs.declared.node.Sort.{Sort}
use Rattle.text.specs.declared.node.Sort.TheVariants.{Test, Policy}
use Rattle.text.specs.Nodes.{fitting, fits, sound}
use Rattle.text.proofs.Sound.{fitting_there}
use Rattle.notation.specs.declared.kind.Kind.{Kind}
use Rattle.notation.specs.declared.kind.Kind.TheVariants.{Always, Is, Both, Either, Not, Keep, Put, And, Then}
use Rattle.notation.specs.declared.marks.Mark.TheVariants.{Newline, Semicolon, Hash}
use Rattle.notation.specs.Kinds.{same_word, word_of, kind_of}
use Rattle.notation.specs.Marks.{before, parts}
use Rattle.notation.specs.Numbers.{goes_on, number_of}
use Rattle.notation.specs.Words.{Word}
use Rattle.notation.specs.Reading.{Read, and_then, check, or_form, numeral, up_to, ended}
use Rattle.notation.specs.Operands.{Sofar, latest, written, one, two_written, two, added}
use Rattle.notation.specs.Notation.{setting, from, of_kind, node_in, nodes_in, line_in, at_line, finished, lines_in}
use Rattle.notation.specs.Writing.{kind_in, numbers_in, spaced, written_nodes, Short, ReadsBack, LeftOut}
use Rattle.notation.proofs.Splits.{parts_first, parts_last, before_clear, word_solid, decimal_good, words_spaced, line_clear}
use Rattle.notation.proofs.Turns.{node_more, finished_some}

kind_word : (k : Kind) → kind_of (word_of k) ≡ Some k
unfolding same_word
kind_word Always = refl
kind_word Is = refl
kind_word Both = refl
kind_word Either = refl
kind_word Not = refl
kind_word Keep = refl
kind_word Put = refl
kind_word And = refl
kind_word Then = refl

number_long : (ds : List ℕ) → 0 < length ds → number_of ds ≡ goes_on 0 ds
number_long [] h = absurd (omega arith)
number_long (d ∷ ds) h = refl

numeral_back : (n : ℕ) (ws : List Word) → n < 2 ^ 64 → numeral (decimal n ∷ ws) ≡ Read n ws
numeral_back n ws h = let good = decimal_good n h in ap (λ o. or_form o ws) (number_long (decimal n) good.more ∙ good.reads)

limit_back : (most f n : ℕ) (ws : List Word) → n < 2 ^ 64 → leb n most ≡ true → up_to most f (decimal n ∷ ws) ≡ Read n ws
limit_back most f n ws h e = ap (λ g. and_then g (λ x r. check (leb x most) f x r)) (numeral_back n ws h) ∙ ap (λ t. check t f n ws) e

setting_back : (f x : ℕ) → leb f 7 ≡ true → x ≤ 65535 → setting (decimal f ∷ (decimal x ∷ [])) ≡ Read (f, x) []
unfolding setting
setting_back f x h l =
    let a = limit_back 7 2 f (decimal x ∷ []) (omega (arith, leb-true f 7 h)) h in
    let b = limit_back 65535 2 x [] (omega arith) (le-leb x 65535 l) in
    ap (λ g. and_then g (λ m r. and_then (up_to 65535 2 r) (λ y q. Read (m, y) q))) a ∙ ap (λ g. and_then g (λ y q. Read (f, y) q)) b

operand_small : (want : Sort) (ns : List Node) (k : ℕ) → length ns < 512 → fitting want ns k ≡ true → k < 2 ^ 64
operand_small want ns k few h = omega (arith, fitting_there want ns k h)

written_back : (want : Sort) (s : Sofar) (k : ℕ) (ws : List Word) → length s.nodes < 512 → fitting want s.nodes k ≡ true → written want s (decimal k ∷ ws) ≡ Read k ws
written_back want s k ws few h =
    ap (λ g. and_then g (λ a r. check (fitting want s.nodes a) 3 a r)) (numeral_back k ws (operand_small want s.nodes k few h))
    ∙ ap (λ t. check t 3 k ws) h

two_back : (want : Sort) (s : Sofar) (a b : ℕ) → length s.nodes < 512 → (fitting want s.nodes a && fitting want s.nodes b) ≡ true → two_written want s (decimal a ∷ (decimal b ∷ [])) ≡ Read (a, b) []
two_back want s a b few h =
    let p = and_parts (fitting want s.nodes a) (fitting want s.nodes b) h in
    ap (λ g. and_then g (λ x r. and_then (written want s r) (λ y q. Read (x, y) q))) (written_back want s a (decimal b ∷ []) few p.0)
    ∙ ap (λ g. and_then g (λ y q. Read (a, y) q)) (written_back want s b [] few p.1)

-- the words behind the first one
kind_back : (s : Sofar) (n : Node) → length s.nodes < 512 → fits s.nodes n ≡ true → Short n → and_then (of_kind (kind_in n) s (map decimal (numbers_in n))) ended ≡ Read n []
unfolding one two
kind_back s node.Always few h l = refl
kind_back s (node.Is f x) few h l = ap (λ g. and_then (from (λ p. node.Is p.0 p.1) g) ended) (setting_back f x h l)
kind_back s (node.Both a b) few h l = ap (λ g. and_then (from (λ p. node.Both p.0 p.1) g) ended) (two_back Test s a b few h)
kind_back s (node.Either a b) few h l = ap (λ g. and_then (from (λ p. node.Either p.0 p.1) g) ended) (two_back Test s a b few h)
kind_back s (node.Not a) few h l = ap (λ g. and_then (from node.Not g) ended) (written_back Test s a [] few h)
kind_back s (node.Keep a) few h l = ap (λ g. and_then (from node.Keep g) ended) (written_back Test s a [] few h)
kind_back s (node.Put f x) few h l = ap (λ g. and_then (from (λ p. node.Put p.0 p.1) g) ended) (setting_back f x h l)
kind_back s (node.And a b) few h l = ap (λ g. and_then (from (λ p. node.And p.0 p.1) g) ended) (two_back Policy s a b few h)
kind_back s (node.Then a b) few h l = ap (λ g. and_then (from (λ p. node.Then p.0 p.1) g) ended) (two_back Policy s a b few h)

two_small : (want : Sort) (ns : List Node) (a b : ℕ) → length ns < 512 → (fitting want ns a && fitting want ns b) ≡ true → AllByRecursion (λ k. k < 2 ^ 64) (a ∷ (b ∷ []))
two_small want ns a b few h =
    let p = and_parts (fitting want ns a) (fitting want ns b) h in
    (operand_small want ns a few p.0, (operand_small want ns b few p.1, tt))

numbers_small : (ns : List Node) (n : Node) → length ns < 512 → fits ns n ≡ true → Short n → AllByRecursion (λ k. k < 2 ^ 64) (numbers_in n)
numbers_small ns node.Always few h l = tt
numbers_small ns (node.Is f x) few h l = (omega (arith, leb-true f 7 h), (omega arith, tt))
numbers_small ns (node.Both a b) few h l = two_small Test ns a b few h
numbers_small ns (node.Either a b) few h l = two_small Test ns a b few h
numbers_small ns (node.Not a) few h l = (operand_small Test ns a few h, tt)
numbers_small ns (node.Keep a) few h l = (operand_small Test ns a few h, tt)
numbers_small ns (node.Put f x) few h l = (omega (arith, leb-true f 7 h), (omega arith, tt))
numbers_small ns (node.And a b) few h l = two_small Policy ns a b few h
numbers_small ns (node.Then a b) few h l = two_small Policy ns a b few h

-- the words of a node
node_back : (s : Sofar) (n : Node) → length s.nodes < 512 → fits s.nodes n ≡ true → Short n → Read (added s n) [] ≡ node_in s (word_of (kind_in n) ∷ map decimal (numbers_in n))
node_back s n few h l =
    let k = kind_in n in
    let ws = map decimal (numbers_in n) in
    node_more s (added s n) (word_of k ∷ ws) ws (word_of k) k n refl refl (sym (kind_word k)) few (sym (kind_back s n few h l)) refl

-- the line of a node
line_back : (s : Sofar) (n : Node) → length s.nodes < 512 → fits s.nodes n ≡ true → Short n → line_in s (word_of (kind_in n) ++ spaced (numbers_in n)) ≡ Read (added s n) []
unfolding nodes_in
line_back s n few h l =
    let w = word_of (kind_in n) in
    let ns = numbers_in n in
    let line = w ++ spaced ns in
    let word = word_solid (kind_in n) in
    let small = numbers_small s.nodes n few h l in
    let some : 0 < length line = omega (arith, length-append w (spaced ns), word.1) in
    ap (λ p. nodes_in s (parts Semicolon p)) (before_clear Hash line (line_clear Hash w ns refl word.0 small))
    ∙ ap (nodes_in s) (parts_last Semicolon line (line_clear Semicolon w ns refl word.0 small) some)
    ∙ ap (λ ws. and_then (node_in s ws) (λ t r. Read t [])) (words_spaced w ns word.0 word.1 small)
    ∙ ap (λ g. and_then g (λ t r. Read t [])) (sym (node_back s n few h l))

lines_back : (k : ℕ) (s : Sofar) (ns : List Node) → sound s.nodes ns ≡ true → AllByRecursion Short ns → length s.nodes + length ns ≤ 512 → lines_in k s (parts Newline (written_nodes ns)) ≡ finished (s.nodes ++ ns)
unfolding lines_in parts sound written_nodes
lines_back k s [] h l few = ap finished (sym (append-nil s.nodes))
lines_back k s (n ∷ ns) h l few =
    let fit = and_parts (fits s.nodes n) _ h in
    let w = word_of (kind_in n) in
    let line = w ++ spaced (numbers_in n) in
    let room : length s.nodes < 512 = omega arith in
    let small = numbers_small s.nodes n room fit.0 l.0 in
    ap (lines_in k s) (parts_first Newline line 10 (written_nodes ns) (line_clear Newline w (numbers_in n) refl (word_solid (kind_in n)).0 small) refl)
    ∙ ap (λ g. at_line (k + 1) g (λ t. lines_in (k + 1) t (parts Newline (written_nodes ns)))) (line_back s n room fit.0 l.0)
    ∙ lines_back (k + 1) (added s n) ns fit.1 l.1 (omega (arith, length_push s.nodes n))
    ∙ ap finished (append_assoc s.nodes (n ∷ []) ns)

pub reads_back : ReadsBack
reads_back ns h l some few = lines_back 0 _ ns h l (omega arith) ∙ sym (finished_some ns (omega arith))

pub left_out_lem : LeftOut
unfolding before parts same_word goes_on latest one two setting nodes_in lines_in
left_out_lem = refl
