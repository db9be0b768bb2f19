-- A change that was written reads as its texts, and how it is written.
use Rattle.std.proofs.Common.{◌≡◌, ℕ, suc, ◌+◌, ◌<◌, ◌≤◌, true, not, ◌&&◌, ltb, List, [], ◌∷◌, ◌++◌, map, length, get_or, take, replicate, is_some, Some, None, sym, refl, ap, ◌∙◌, arith, length-append}
use lib.Seq.{take-append_seam}
use Rattle.std.proofs.lemmas.List.{append-nil, append_assoc, map_push, map_more, length-map, length_push, length-take-le, take-take, set_at}
use Rattle.std.proofs.lemmas.Bool.{lt-ltb}
use Rattle.octets.specs.Parse.{Read, and_then}
use Rattle.text.specs.declared.node.Node.{Node}
use Rattle.text.specs.Format.{listed, listed_bytes, text_bytes}
use Rattle.text.proofs.Trips.{listed_back}
use Rattle.plan.specs.declared.part.Part.{Part}
use Rattle.plan.specs.Parts.{text_in}
use Rattle.plan.specs.Slots.{Slots, free, placed, whole, consed, given, finished}
use Rattle.plan.specs.Changes.{text, texts, texts_bytes}
use Rattle.plan.specs.Laws.{Fits, AllFit, ReadsBack}
use Rattle.plan.proofs.Placing.{line_put, fits_put}

-- the texts that came, and k empty slots behind them
after : List (List Node) → ℕ → Slots
after done k = map Some done ++ replicate k None

at_next : (done : List (List Node)) (rest : Slots) → get_or (map Some done ++ None ∷ rest) (length done) None ≡ None
at_next [] rest = refl
at_next (ns ∷ done) rest = at_next done rest

free_next : (done : List (List Node)) (k : ℕ) → free (after done (suc k)) (length done) ≡ true
unfolding after
free_next done k =
    let slots = map Some done ++ None ∷ replicate k None in
    let long : ltb (length done) (length slots) ≡ true = lt-ltb _ _ (omega (arith, length-append (map Some done) (None ∷ replicate k None), length-map done Some)) in
    ap (λ b. b && not (is_some (get_or slots (length done) None))) long ∙ ap (λ o. not (is_some o)) (at_next done (replicate k None))

placed_next : (done : List (List Node)) (ns : List Node) (k : ℕ) → placed (length done) ns (after done (suc k)) ≡ after (done ++ ns ∷ []) k
unfolding after
placed_next done ns k =
    set_at (map Some done) None (replicate k None) (Some ns) (length done) (length-map done Some)
    ∙ sym (ap (λ l. l ++ replicate k None) (map_push Some done ns) ∙ append_assoc (map Some done) (Some ns ∷ []) (replicate k None))

one_back : (done : List (List Node)) (ns : List Node) (k : ℕ) (rest : List ℕ) → Fits ns →
    text (after done (suc k)) (text_bytes (length done) ns ++ rest) ≡ Read (after (done ++ ns ∷ []) k) rest
one_back done ns k rest fit =
    line_put (after done (suc k)) (length done) listed (listed_bytes ns ++ rest) ns rest (free_next done k) (listed_back ns rest fit.some fit.few fit.sound)
    ∙ fits_put (after done (suc k)) (length done) ns rest fit.fits ∙ ap (λ s. Read s rest) (placed_next done ns k)

texts_back : (done ts : List (List Node)) → AllFit ts → texts (length ts) (after done (length ts)) (texts_bytes (length done) ts) ≡ Read (map Some (done ++ ts)) []
unfolding after
texts_back done [] fit = ap (λ s. Read s []) (append-nil (map Some done) ∙ ap (map Some) (sym (append-nil done)))
texts_back done (ns ∷ ts) fit =
    let k = length ts in
    let next : length (done ++ ns ∷ []) ≡ suc (length done) = length_push done ns ∙ omega arith in
    ap (λ g. and_then g (texts k)) (one_back done ns k (texts_bytes (suc (length done)) ts) fit.0)
    ∙ ap (λ i. texts k (after (done ++ ns ∷ []) k) (texts_bytes i ts)) (sym next)
    ∙ texts_back (done ++ ns ∷ []) ts fit.1 ∙ ap (λ l. Read (map Some l) []) (append_assoc done (ns ∷ []) ts)

whole_back : (ts : List (List Node)) → whole (map Some ts) ≡ Some ts
unfolding whole
whole_back [] = refl
whole_back (ns ∷ ts) = ap (consed ns) (whole_back ts)

pub reads_back : ReadsBack
unfolding after
reads_back ts fit = ap (λ g. and_then g finished) (texts_back [] ts fit) ∙ ap (λ o. given o []) (whole_back ts)

-- one text more is written
pub texts_push : (i : ℕ) (ts : List (List Node)) (t : List Node) → texts_bytes i (ts ++ t ∷ []) ≡ texts_bytes i ts ++ text_bytes (i + length ts) t
texts_push i [] t = append-nil (text_bytes i t) ∙ ap (λ k. text_bytes k t) (let e : i ≡ i + 0 = omega arith in e)
texts_push i (s ∷ ts) t =
    ap (λ l. text_bytes i s ++ l) (texts_push (suc i) ts t ∙ ap (λ k. texts_bytes (suc i) ts ++ text_bytes k t) (let e : suc i + length ts ≡ i + suc (length ts) = omega arith in e))
    ∙ sym (append_assoc (text_bytes i s) (texts_bytes (suc i) ts) (text_bytes (i + suc (length ts)) t))

-- the texts of a plan fit
pub all_fit : (ps : List Part) → AllFit (map text_in ps)
all_fit [] = tt
all_fit (p ∷ ps) =
    let ns = p.text.nodes in
    (record { some = omega (arith, p.text.some, ns.ok.0); few = omega (arith, p.text.few, ns.ok.0); sound = p.text.sound; fits = p.fits }, all_fit ps)

pub texts_more : (old now after : List ℕ) (ps : List Part) (i : ℕ) (p : Part) (ns : List Node) → i < length ps → p ≡ get_or ps i p → ns ≡ text_in p →
    now ≡ old ++ texts_bytes 0 (map text_in (take i ps)) → after ≡ now ++ text_bytes i ns → after ≡ old ++ texts_bytes 0 (map text_in (take (i + 1) ps))
texts_more old now after ps i p ns lt is same had grown =
    let ts = map text_in (take i ps) in
    let long : 0 + length ts ≡ i = omega (arith, length-map (take i ps) text_in, length-take-le i ps (omega arith)) in
    grown ∙ ap (λ l. l ++ text_bytes i ns) had ∙ append_assoc old (texts_bytes 0 ts) (text_bytes i ns)
    ∙ ap (λ l. old ++ l)
    (ap (λ k. texts_bytes 0 ts ++ text_bytes k ns) (sym long) ∙ sym (texts_push 0 ts ns)
    ∙ ap (texts_bytes 0) (ap (λ t. ts ++ t ∷ []) (same ∙ ap text_in is) ∙ sym (map_more text_in ps i p lt)))

-- what was there is in front of what was written, so that it comes back
pub cut_back : (old new mid after : List ℕ) (n : ℕ) → mid ≡ old ++ new → n ≡ length mid → take n after ≡ mid → take (length old) after ≡ old
cut_back old new mid after n is long front =
    let le : length old ≤ n = omega (arith, ap length is, length-append old new, long) in
    sym (take-take (length old) n after le) ∙ ap (take (length old)) (front ∙ is) ∙ take-append_seam old new
