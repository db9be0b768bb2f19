-- A node that is read from words may follow the nodes so far.
use Rattle.std.proofs.Common.{◌≡◌, ℕ, Bool, true, false, cond, ◌&&◌, leb, List, length, Some, None, Option, refl, arith}
use Rattle.std.proofs.lemmas.Bool.{and_from}
use Rattle.text.specs.declared.node.Node.{Node}
use Rattle.text.specs.declared.node.Sort.{Sort}
use Rattle.text.specs.declared.node.Sort.TheVariants.{Test, Policy}
use Rattle.text.specs.Nodes.{fitting, fits}
use Rattle.notation.specs.declared.kind.Kind.{Kind}
use Rattle.notation.specs.declared.kind.Kind.TheVariants.{Always, Is, Both, Either, Not, Keep, Put, And, Then}
use Rattle.notation.specs.Words.{Word, some}
use Rattle.notation.specs.Reading.{Got, Read, Bad, and_then, check, numeral, up_to}
use Rattle.notation.specs.Operands.{Sofar, latest, written, or_operand, left_out, one, two_written, two_left_out, two}
use Rattle.notation.specs.Notation.{setting, from, of_kind}

-- P holds of what is read, if anything is
abbrev Gives : {X : Type 0} → (X → Type 0) → Got X → Type 0
Gives P (Read x ws) = P x
Gives P (Bad n) = Unit {0}

gives_then : {X Y : Type 0} (P : X → Type 0) (Q : Y → Type 0) (g : Got X) (f : X → List Word → Got Y) → Gives P g → ((x : X) (r : List Word) → P x → Gives Q (f x r)) → Gives Q (and_then g f)
gives_then P Q (Read x r) f h k = k x r h
gives_then P Q (Bad n) f h k = tt

gives_any : {X Y : Type 0} (Q : Y → Type 0) (g : Got X) (f : X → List Word → Got Y) → ((x : X) (r : List Word) → Gives Q (f x r)) → Gives Q (and_then g f)
gives_any Q (Read x r) f k = k x r
gives_any Q (Bad n) f k = tt

gives_check : {X : Type 0} (P : X → Type 0) (t : Bool) (n : ℕ) (x : X) (r : List Word) → (t ≡ true → P x) → Gives P (check t n x r)
gives_check P true n x r h = h refl
gives_check P false n x r h = tt

gives_cond : {X : Type 0} (P : X → Type 0) (t : Bool) (g h : Got X) → Gives P g → Gives P h → Gives P (cond t g h)
gives_cond P true g h a b = a
gives_cond P false g h a b = b

abbrev Small : ℕ × ℕ → Type 0
Small p = leb p.0 7 ≡ true

abbrev Fit : Sort → Sofar → ℕ → Type 0
Fit want s k = fitting want s.nodes k ≡ true

abbrev FitTwo : Sort → Sofar → ℕ × ℕ → Type 0
FitTwo want s p = (fitting want s.nodes p.0 && fitting want s.nodes p.1) ≡ true

setting_fits : (ws : List Word) → Gives Small (setting ws)
unfolding setting
setting_fits ws =
    gives_then (λ f. leb f 7 ≡ true) Small (up_to 7 2 ws) _
    (gives_any (λ f. leb f 7 ≡ true) (numeral ws) _ (λ x r. gives_check (λ f. leb f 7 ≡ true) (leb x 7) 2 x r (λ h. h)))
    (λ f r h. gives_any Small (up_to 65535 2 r) _ (λ x q. h))

written_fits : (want : Sort) (s : Sofar) (ws : List Word) → Gives (Fit want s) (written want s ws)
written_fits want s ws = gives_any (Fit want s) (numeral ws) _ (λ k r. gives_check (Fit want s) (fitting want s.nodes k) 3 k r (λ h. h))

left_out_fits : (want : Sort) (s : Sofar) (o : Option ℕ) (ws : List Word) → Gives (Fit want s) (or_operand want s o ws)
left_out_fits want s None ws = tt
left_out_fits want s (Some k) ws = gives_check (Fit want s) (fitting want s.nodes k) 3 k ws (λ h. h)

one_fits : (want : Sort) (s : Sofar) (ws : List Word) → Gives (Fit want s) (one want s ws)
unfolding one
one_fits want s ws = gives_cond (Fit want s) (some ws) _ _ (written_fits want s ws) (left_out_fits want s (latest s.used (length s.nodes)) ws)

two_fits : (want : Sort) (s : Sofar) (ws : List Word) → Gives (FitTwo want s) (two want s ws)
unfolding two
two_fits want s ws =
    gives_cond (FitTwo want s) (some ws) (two_written want s ws) (two_left_out want s ws)
    (gives_then (Fit want s) (FitTwo want s) (written want s ws) _ (written_fits want s ws)
    (λ a r h. gives_then (Fit want s) (FitTwo want s) (written want s r) _ (written_fits want s r) (λ b q k. and_from _ _ h k)))
    (gives_then (Fit want s) (FitTwo want s) (left_out want s (length s.nodes) ws) _ (left_out_fits want s (latest s.used (length s.nodes)) ws)
    (λ b r h. gives_then (Fit want s) (FitTwo want s) (left_out want s b r) _ (left_out_fits want s (latest s.used b) r) (λ a q k. and_from _ _ k h)))

from_fits : {X : Type 0} (P : X → Type 0) (s : Sofar) (make : X → Node) (g : Got X) → Gives P g → ((x : X) → P x → fits s.nodes (make x) ≡ true) → Gives (λ n. fits s.nodes n ≡ true) (from make g)
from_fits P s make g h k = gives_then P (λ n. fits s.nodes n ≡ true) g _ h (λ x r p. k x p)

kind_fits : (k : Kind) (s : Sofar) (ws : List Word) → Gives (λ n. fits s.nodes n ≡ true) (of_kind k s ws)
kind_fits Always s ws = refl
kind_fits Is s ws = from_fits Small s _ (setting ws) (setting_fits ws) (λ p h. h)
kind_fits Both s ws = from_fits (FitTwo Test s) s _ (two Test s ws) (two_fits Test s ws) (λ p h. h)
kind_fits Either s ws = from_fits (FitTwo Test s) s _ (two Test s ws) (two_fits Test s ws) (λ p h. h)
kind_fits Not s ws = from_fits (Fit Test s) s _ (one Test s ws) (one_fits Test s ws) (λ p h. h)
kind_fits Keep s ws = from_fits (Fit Test s) s _ (one Test s ws) (one_fits Test s ws) (λ p h. h)
kind_fits Put s ws = from_fits Small s _ (setting ws) (setting_fits ws) (λ p h. h)
kind_fits And s ws = from_fits (FitTwo Policy s) s _ (two Policy s ws) (two_fits Policy s ws) (λ p h. h)
kind_fits Then s ws = from_fits (FitTwo Policy s) s _ (two Policy s ws) (two_fits Policy s ws) (λ p h. h)

given : {X : Type 0} (P : X → Type 0) (g : Got X) (x : X) (r : List Word) → Read x r ≡ g → Gives P g → P x
given P (Read y q) x r e h = let s : x ≡ y = cc in rw s h
given P (Bad n) x r e h = let z : ◌≡◌ {A = ℕ} 0 1 = cc in absurd (omega arith)

pub node_fits : (k : Kind) (s : Sofar) (ws : List Word) (n : Node) (r : List Word) → Read n r ≡ of_kind k s ws → fits s.nodes n ≡ true
node_fits k s ws n r e = given (λ n. fits s.nodes n ≡ true) (of_kind k s ws) n r e (kind_fits k s ws)
