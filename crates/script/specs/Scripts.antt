-- The header of a script, line by line, up to `start` or to the first fault and its line.
use Rattle.std.specs.Prelude.{◌≡◌, ℕ, ◌+◌, cond, ◌⊎◌, List, [], ◌∷◌, ◌++◌, map, Some, None, Ok, Err, vec_items, codes, Option, Result}
use Rattle.octets.specs.declared.fault.Fault.{Fault}
use Rattle.octets.specs.declared.fault.Fault.TheVariants.{Memory}
use Rattle.octets.specs.Faults.{number}
use Rattle.octets.specs.Parse as parse
use Rattle.notation.specs.declared.marks.Mark.TheVariants.{Hash, Newline}
use Rattle.notation.specs.declared.reader.Refusal.{Refusal}
use Rattle.notation.specs.Marks.{before, parts}
use Rattle.notation.specs.Kinds.{same_word}
use Rattle.notation.specs.Words.{Word, words_of}
use Rattle.notation.specs.Reading.{Got, Read, Bad, and_then, ended}
use Rattle.octets.specs.Parse.{alone}
use Rattle.wire.specs.Layouts.{Layout, layout}
use Rattle.script.specs.declared.header.headings.Heading.{Heading}
use Rattle.script.specs.declared.header.headings.Heading.TheVariants as heading
use Rattle.script.specs.declared.header.draft.Went.{Went}
use Rattle.script.specs.declared.header.draft.Went.TheVariants.{On, Begun}
use Rattle.script.specs.declared.header.draft.Draft.{Draft}
use Rattle.script.specs.declared.header.description.Description.{Description}
use Rattle.script.specs.declared.header.Placed as declared
use Rattle.script.specs.declared.header.Header.{Header}
use Rattle.script.specs.Lines.{Text, text_of, text_in, after_word}
use Rattle.script.specs.Headings.{heading_of}
use Rattle.script.specs.Headers.{net, cable, outside}
use Rattle.script.specs.Described.{layout_of}

-- a text, and its line
pub record Placed : Type 0 where
  pub line : ℕ
  pub text : Text

abbrev pub placed_of : declared.Placed → Placed
placed_of p = record { line = p.line; text = text_of p.text }

-- the net as described so far, and the texts so far
pub record Sofar : Type 0 where
  pub layout : Layout
  pub texts : List Placed

abbrev pub described : Sofar → Layout → Sofar
described s x = record { layout = x; texts = s.texts }

abbrev pub with_text : Sofar → ℕ → Text → Sofar
with_text s k t = record { layout = s.layout; texts = s.texts ++ record { line = k; text = t } ∷ [] }

-- a line behind `net`, which is line k: the words behind the first one, and their bytes
abbrev pub of_heading : ℕ → Sofar → Option Heading → List ℕ → List Word → Got (Went × Sofar)
of_heading k s None bs ws = Bad 1
of_heading k s (Some heading.Net) bs ws = Bad 1
of_heading k s (Some heading.Cable) bs ws = and_then (cable s.layout ws) (λ x r. Read (On, described s x) r)
of_heading k s (Some heading.Outside) bs ws = and_then (outside s.layout ws) (λ x r. Read (On, described s x) r)
of_heading k s (Some heading.Text) bs ws = and_then (text_in bs ws) (λ t r. Read (On, with_text s k t) r)
of_heading k s (Some heading.Start) bs ws = ended (Begun, s) ws

abbrev pub words_in : ℕ → Sofar → List ℕ → List Word → Got (Went × Sofar)
words_in k s bs [] = Read (On, s) []
words_in k s bs (w ∷ ws) = of_heading k s (heading_of w) (after_word bs) ws

abbrev pub line_in : ℕ → Sofar → List ℕ → Got (Went × Sofar)
line_in k s bs = words_in k s (before Hash bs) (words_of (before Hash bs))

-- Started: the net, the texts, the line of `start`, the lines behind it. A script may end before `start`.
pub data Outcome : Type 0 where
  Started : parse.Got Layout → List Placed → ℕ → List (List ℕ) → Outcome
  Unfinished : Outcome
  Refused : ℕ → Option ℕ → Outcome

abbrev pub started : Sofar → ℕ → List (List ℕ) → Outcome
started s k ls = Started (parse.Read s.layout []) s.texts k ls

abbrev pub goes_on : ℕ → List (List ℕ) → Got (Went × Sofar) → (Sofar → Outcome) → Outcome
goes_on k ls (Read (On, s) r) f = f s
goes_on k ls (Read (Begun, s) r) f = started s k ls
goes_on k ls (Bad n) f = Refused n (Some k)

-- when `net` was read
abbrev pub opened : Layout → Sofar
opened x = record { layout = x; texts = [] }

-- lines behind the first k, of which one was `net`
unfoldable pub describing : ℕ → Sofar → List (List ℕ) → Outcome
describing k s [] = Unfinished
describing k s (l ∷ ls) = goes_on (k + 1) ls (line_in (k + 1) s l) (λ t. describing (k + 1) t ls)

-- a line before `net`: blank, or `net`
abbrev pub first_words : List Word → Got (Option Layout)
first_words [] = Read None []
first_words (w ∷ ws) = cond (same_word w (codes "net")) (and_then (net ws) (λ x r. Read (Some x) r)) (Bad 1)

abbrev pub first_in : List ℕ → Got (Option Layout)
first_in bs = first_words (words_of (before Hash bs))

abbrev pub opens : ℕ → List (List ℕ) → Got (Option Layout) → Outcome → Outcome
opens k ls (Read None r) more = more
opens k ls (Read (Some x) r) more = describing k (opened x) ls
opens k ls (Bad n) more = Refused n (Some k)

unfoldable pub opening : ℕ → List (List ℕ) → Outcome
opening k [] = Unfinished
opening k (l ∷ ls) = opens (k + 1) ls (first_in l) (opening (k + 1) ls)

abbrev pub header_in : List ℕ → Outcome
header_in bs = opening 0 (parts Newline bs)

-- What the reader's answers say.
abbrev pub sofar_of : Draft → Sofar
sofar_of d = record { layout = layout_of d.description; texts = map placed_of (vec_items d.texts) }

abbrev pub Goes : Result Went Fault → Draft → Got (Went × Sofar) → Type 0
Goes (Ok w) d g = Read (w, sofar_of d) [] ≡ g
Goes (Err e) d g = (e ≡ Memory) ⊎ (Bad (number e) ≡ g)

-- a line before `net`
abbrev pub Opened : Result (Option Description) Fault → Got (Option Layout) → Type 0
Opened (Ok None) g = Read None [] ≡ g
Opened (Ok (Some d)) g = Read (Some (layout_of d)) [] ≡ g
Opened (Err e) g = Bad (number e) ≡ g

-- the bytes of the list of cables, as they read
abbrev pub begun : Header → Outcome
begun h = Started (alone layout (vec_items h.cables)) (map placed_of (vec_items h.texts)) h.line (parts Newline h.rest.now)

abbrev pub started_at : Sofar → ℕ → List ℕ → Outcome
started_at s k bs = started s k (parts Newline bs)

abbrev pub refusal : Fault → ℕ → Refusal
refusal e k = record { fault = e; line = Some k }

abbrev pub Headed : Result (Option Header) Refusal → Outcome → Type 0
Headed (Ok (Some h)) o = begun h ≡ o
Headed (Ok None) o = Unfinished ≡ o
Headed (Err e) o = (e.fault ≡ Memory) ⊎ (Refused (number e.fault) e.line ≡ o)
