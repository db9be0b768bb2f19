-- One line of a header more.
use Rattle.std.proofs.Common.{◌≡◌, ℕ, ◌+◌, ◌⊎◌, List, [], ◌∷◌, ◌++◌, map, Option, Some, None, Ok, Err, Result, MatchResult, sym, ap, ◌∙◌, subst, inl, inr, arith}
use Rattle.std.specs.Result.{IsErrAnd}
use Rattle.std.proofs.lemmas.List.{map_push}
use Rattle.octets.specs.declared.fault.Fault.{Fault}
use Rattle.octets.specs.declared.fault.Fault.TheVariants.{Memory}
use Rattle.octets.specs.Faults.{number}
use Rattle.notation.specs.declared.reader.Refusal.{Refusal}
use Rattle.notation.specs.declared.marks.Mark.TheVariants.{Newline}
use Rattle.notation.specs.Marks.{parts}
use Rattle.notation.specs.Words.{Word}
use Rattle.notation.specs.Reading.{Got, Read, Bad, and_then}
use Rattle.wire.specs.Layouts.{Layout}
use Rattle.script.specs.declared.line.TextLine.{TextLine}
use Rattle.script.specs.declared.header.Header.{Header}
use Rattle.script.specs.declared.header.Placed as declared
use Rattle.script.specs.declared.header.draft.Went.TheVariants.{On, Begun}
use Rattle.script.specs.declared.header.headings.Heading.TheVariants as heading
use Rattle.script.specs.Lines.{text_of, text_in}
use Rattle.script.specs.Scripts.{placed_of, Sofar, with_text, of_heading, line_in, goes_on, describing, opened, started_at, Outcome, Refused, Unfinished, refusal, Headed, first_in, opens, opening}

abbrev at : Layout → List declared.Placed → Sofar
at x ps = record { layout = x; texts = map placed_of ps }

pub text_more : (k : ℕ) (x : Layout) (old more : List declared.Placed) (t : TextLine) (bs : List ℕ) (ws : List Word) → Read (text_of t) [] ≡ text_in bs ws →
    more ≡ old ++ record { line = k; text = t } ∷ [] → Read (On, at x more) [] ≡ of_heading k (at x old) (Some heading.Text) bs ws
text_more k x old more t bs ws e f =
    ap (λ l. Read (On, at x l) []) f
    ∙ ap (λ l. Read (On, record { layout = x; texts = l }) []) (map_push placed_of old (record { line = k; text = t }))
    ∙ ap (λ g. and_then g (λ u r. Read (On, with_text (at x old) k u) r)) e

-- a line more
pub line_more : (k : ℕ) (s t : Sofar) (all rest : List (List ℕ)) (l : List ℕ) → all ≡ l ∷ rest → Read (On, t) [] ≡ line_in (k + 1) s l → describing (k + 1) t rest ≡ describing k s all
unfolding describing
line_more k s t all rest l is e = ap (λ g. goes_on (k + 1) rest g (λ u. describing (k + 1) u rest)) e ∙ ap (describing k s) (sym is)

pub line_starts : (k : ℕ) (s t : Sofar) (all : List (List ℕ)) (l rest : List ℕ) → all ≡ l ∷ parts Newline rest → Read (Begun, t) [] ≡ line_in (k + 1) s l → started_at t (k + 1) rest ≡ describing k s all
unfolding describing
line_starts k s t all l rest is e =
    ap (λ g. goes_on (k + 1) (parts Newline rest) g (λ u. describing (k + 1) u (parts Newline rest))) e ∙ ap (describing k s) (sym is)

pub line_stops : (k : ℕ) (s : Sofar) (n : ℕ) (all rest : List (List ℕ)) (l : List ℕ) → all ≡ l ∷ rest → Bad n ≡ line_in (k + 1) s l → Refused n (Some (k + 1)) ≡ describing k s all
unfolding describing
line_stops k s n all rest l is e = ap (λ g. goes_on (k + 1) rest g (λ u. describing (k + 1) u rest)) e ∙ ap (describing k s) (sym is)

pub lines_end : (k : ℕ) (s : Sofar) (all : List (List ℕ)) → all ≡ [] → Unfinished ≡ describing k s all
unfolding describing
lines_end k s all is = ap (describing k s) (sym is)

-- no text yet
pub none_yet : (k : ℕ) (x : Layout) (ps : List declared.Placed) (ls : List (List ℕ)) → ps ≡ [] → describing k (at x ps) ls ≡ describing k (opened x) ls
none_yet k x ps ls e = ap (λ l. describing k (at x l) ls) e

-- a fault in line k, or want of memory
pub stopped : (e : Refusal) (f : Fault) (k : ℕ) {X : Type 0} (g : Got X) (o : Outcome) → e ≡ refusal f k → (f ≡ Memory) ⊎ (Bad (number f) ≡ g) →
    (Bad (number f) ≡ g → Refused (number f) (Some k) ≡ o) → Headed (Err e) o
stopped e f k g o is (inl m) h = inl (ap (λ r. r.fault) is ∙ m)
stopped e f k g o is (inr b) h = inr (ap (λ r. Refused (number r.fault) r.line) is ∙ h b)

-- before `net`
pub first_more : (k : ℕ) (all rest : List (List ℕ)) (l : List ℕ) → all ≡ l ∷ rest → Read None [] ≡ first_in l → opening (k + 1) rest ≡ opening k all
unfolding opening
first_more k all rest l is e = ap (λ g. opens (k + 1) rest g (opening (k + 1) rest)) e ∙ ap (opening k) (sym is)

pub first_net : (k : ℕ) (x : Layout) (all rest : List (List ℕ)) (l : List ℕ) → all ≡ l ∷ rest → Read (Some x) [] ≡ first_in l → describing (k + 1) (opened x) rest ≡ opening k all
unfolding opening
first_net k x all rest l is e = ap (λ g. opens (k + 1) rest g (opening (k + 1) rest)) e ∙ ap (opening k) (sym is)

pub first_stops : (k n : ℕ) (all rest : List (List ℕ)) (l : List ℕ) → all ≡ l ∷ rest → Bad n ≡ first_in l → Refused n (Some (k + 1)) ≡ opening k all
unfolding opening
first_stops k n all rest l is e = ap (λ g. opens (k + 1) rest g (opening (k + 1) rest)) e ∙ ap (opening k) (sym is)

pub first_end : (k : ℕ) (all : List (List ℕ)) → all ≡ [] → Unfinished ≡ opening k all
unfolding opening
first_end k all is = ap (opening k) (sym is)

-- an answer whose fault gets its line: the value, or the fault that it was
pub went_on : {X : Type 0} (G : Result X Fault → Type 0) (r : Result X Fault) (m : Result X Refusal) (Post : Fault → Refusal → Type 0) (x : X) →
    G r → MatchResult r (λ y. m ≡ Ok y) (λ f. IsErrAnd m (Post f)) → m ≡ Ok x → G (Ok x)
went_on G (Ok y) m Post x g maps is = let same : y ≡ x = cc in subst (λ z. G (Ok z)) same g
went_on G (Err f) (Ok y) Post x g maps is = absurd maps
went_on {X} G (Err f) (Err e) Post x g maps is = let no : ◌≡◌ {A = Result X Refusal} (Err e) (Ok x) = is in absurd (ok_is_no_err no)
  where
    ok_is_no_err : ◌≡◌ {A = Result X Refusal} (Err e) (Ok x) → ⊥
    ok_is_no_err h = let z : ◌≡◌ {A = ℕ} 0 1 = cc in absurd (omega arith)

pub stopped_at : {X : Type 0} (G : Result X Fault → Type 0) (r : Result X Fault) (m : Result X Refusal) (k : ℕ) (Post : Fault → Refusal → Type 0) (e : Refusal) →
    G r → MatchResult r (λ y. m ≡ Ok y) (λ f. IsErrAnd m (Post f)) → ((f : Fault) (z : Refusal) → Post f z → z ≡ refusal f k) → m ≡ Err e → (f : Fault) × G (Err f) × (e ≡ refusal f k)
stopped_at {X} G (Ok y) m k Post e g maps tells is = let no : ◌≡◌ {A = Result X Refusal} (Ok y) (Err e) = cc in let z : ◌≡◌ {A = ℕ} 0 1 = cc in absurd (omega arith)
stopped_at G (Err f) (Ok y) k Post e g maps tells is = absurd maps
stopped_at {X} G (Err f) (Err z) k Post e g maps tells is = let same : z ≡ e = cc in (f, g, sym same ∙ tells f z maps)

pub told_err : (r : Result (Option Header) Refusal) (y e : Refusal) (o : Outcome) → r ≡ Err y → y ≡ e → Headed (Err e) o → Headed r o
told_err r y e o is same h = subst (λ q. Headed q o) (sym (is ∙ ap Err same)) h
