-- One node more, one line more, and the ends of both.
use Rattle.std.proofs.Common.{◌≡◌, ℕ, ◌+◌, ◌<◌, true, not, ltb, List, [], ◌∷◌, length, drop, Some, None, Option, Result, sym, refl, ap, ◌∙◌, arith}
use Rattle.std.proofs.lemmas.Bool.{true≢false, cond-true, lt-ltb}
use Rattle.std.specs.Option.{ok_or}
use Rattle.octets.specs.declared.fault.Fault.TheVariants.{Range}
use Rattle.octets.specs.Faults.{number}
use Rattle.text.specs.declared.node.Node.{Node}
use Rattle.text.specs.declared.texts.Text.{Text}
use Rattle.text.specs.Texts.{nodes_of, Finished}
use Rattle.notation.specs.declared.reader.Refusal.{Refusal}
use Rattle.notation.specs.Readers.{outcome}
use Rattle.notation.specs.declared.kind.Kind.{Kind}
use Rattle.notation.specs.Kinds.{kind_of}
use Rattle.notation.specs.Words.{Word, some, first, words_of}
use Rattle.notation.specs.Reading.{Read, Bad, and_then, ended}
use Rattle.notation.specs.Operands.{Sofar, added}
use Rattle.notation.specs.Marks.{before, behind, parts}
use Rattle.notation.specs.declared.marks.Mark.{Mark}
use Rattle.notation.proofs.Cuts.{parts_cut}
use Rattle.notation.specs.Notation.{of_kind, one_more, node_in, nodes_in, line_in, Whole, Refused, at_line, finished, lines_in}

pub ended_none : {X : Type 0} (x : X) (ws : List Word) → true ≡ not (some ws) → Read x [] ≡ ended x ws
ended_none x [] h = refl
ended_none x (w ∷ ws) h = absurd (true≢false h)

-- the parts of bytes that were cut
pub parts_at : (m : Mark) (bs p rest : List ℕ) → 0 < length bs → p ≡ before m bs → rest ≡ behind m bs → p ∷ parts m rest ≡ parts m bs
parts_at m bs p rest h e f = ap (λ q. q ∷ parts m rest) e ∙ ap (λ r. before m bs ∷ parts m r) f ∙ sym (parts_cut m bs h)

pub no_parts : (m : Mark) (bs : List ℕ) → length bs ≡ 0 → [] ≡ parts m bs
unfolding parts
no_parts m [] h = refl
no_parts m (b ∷ bs) h = absurd (omega arith)

pub nodes_more : (s t : Sofar) (all rest : List (List ℕ)) (p : List ℕ) → all ≡ p ∷ rest → Read t [] ≡ node_in s (words_of p) → nodes_in t rest ≡ nodes_in s all
unfolding nodes_in
nodes_more s t all rest p e g = ap (λ q. and_then q (λ u r. nodes_in u rest)) g ∙ ap (nodes_in s) (sym e)

pub nodes_stop : (s : Sofar) (n : ℕ) (all rest : List (List ℕ)) (p : List ℕ) → all ≡ p ∷ rest → Bad n ≡ node_in s (words_of p) → Bad n ≡ nodes_in s all
unfolding nodes_in
nodes_stop s n all rest p e g = ap (λ q. and_then q (λ u r. nodes_in u rest)) g ∙ ap (nodes_in s) (sym e)

pub nodes_end : (s : Sofar) (all : List (List ℕ)) → all ≡ [] → Read s [] ≡ nodes_in s all
unfolding nodes_in
nodes_end s all e = ap (nodes_in s) (sym e)

pub lines_more : (k : ℕ) (s t : Sofar) (all rest : List (List ℕ)) (l : List ℕ) → all ≡ l ∷ rest → Read t [] ≡ line_in s l → lines_in (k + 1) t rest ≡ lines_in k s all
unfolding lines_in
lines_more k s t all rest l e g = ap (λ q. at_line (k + 1) q (λ u. lines_in (k + 1) u rest)) g ∙ ap (lines_in k s) (sym e)

pub lines_stop : (k : ℕ) (s : Sofar) (n : ℕ) (all rest : List (List ℕ)) (l : List ℕ) → all ≡ l ∷ rest → Bad n ≡ line_in s l → Refused n (Some (k + 1)) ≡ lines_in k s all
unfolding lines_in
lines_stop k s n all rest l e g = ap (λ q. at_line (k + 1) q (λ u. lines_in (k + 1) u rest)) g ∙ ap (lines_in k s) (sym e)

pub lines_end : (k : ℕ) (s : Sofar) (all : List (List ℕ)) → all ≡ [] → finished s.nodes ≡ lines_in k s all
unfolding lines_in
lines_end k s all e = ap (lines_in k s) (sym e)

-- at the end of the bytes there is a text if there is a node
pub finished_some : (ns : List Node) → 0 < length ns → Whole ns ≡ finished ns
finished_some [] h = absurd (omega arith)
finished_some (n ∷ ns) h = refl

pub finished_by : (ns : List Node) (o : Option Text) (e : Refusal) (r : Result Text Refusal) → r ≡ ok_or o e → Finished ns o → e.fault ≡ Range → e.line ≡ None → outcome r ≡ finished ns
finished_by ns None e r is h f l = ap outcome is ∙ (λ i. Refused (number (f i)) (l i)) ∙ ap finished (sym h)
finished_by ns (Some t) e r is h f l = ap outcome is ∙ finished_some (nodes_of t) (omega (arith, t.some, t.nodes.ok.0)) ∙ ap finished h

-- a node of a known kind, whose words are all read
pub node_more : (s t : Sofar) (all ws : List Word) (w : Word) (k : Kind) (n : Node) → Some w ≡ first all → ws ≡ drop 1 all → Some k ≡ kind_of w → length s.nodes < 512 → Read n [] ≡ and_then (of_kind k s ws) ended → t ≡ added s n → Read t [] ≡ node_in s all
node_more s t [] ws w k n a b c few d e = let z : ◌≡◌ {A = ℕ} 0 1 = cc in absurd (omega arith)
node_more s t (v ∷ vs) ws w k n a b c few d e =
    let same : w ≡ v = cc in
    let kind : Some k ≡ kind_of v = c ∙ ap kind_of same in
    ap (λ u. Read u []) e ∙ ap (λ g. and_then g (λ m r. Read (added s m) r)) (d ∙ ap (λ us. and_then (of_kind k s us) ended) b)
    ∙ sym (cond-true (ltb (length s.nodes) 512) _ (Bad 2) (lt-ltb _ 512 few)) ∙ ap (λ o. one_more s o vs) kind
