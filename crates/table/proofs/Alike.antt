-- Wants and settings are printed and written alike.
use Rattle.std.proofs.Common.{◌≡◌, ℕ, List, [], ◌∷◌, ◌++◌, refl, map, codes, ap, sym, ◌∙◌}
use Rattle.std.specs.List.{flat_map}
use Rattle.std.proofs.lemmas.List.{append-nil, length-map}
use Rattle.std.proofs.lemmas.List.Folds.{flat_map-map}
use Rattle.packet.specs.Pairs.{want_of, setting_of}
use Rattle.packet.specs.declared.pair.Pair.{Pair}
use Rattle.table.specs.Bytes.{want_bytes, setting_bytes, wants_bytes, out_bytes}
use Rattle.table.specs.Lines.{want_text, setting_text, listed, wants_text}

pub wants_bytes_of : (ps : List Pair) → out_bytes (map setting_of ps) ≡ wants_bytes (map want_of ps)
wants_bytes_of ps =
    let long = length-map ps setting_of ∙ sym (length-map ps want_of) in
    λ i. long i ∷ (flat_map-map setting_bytes setting_of ps ∙ sym (flat_map-map want_bytes want_of ps)) i

pub wants_text_of : (ps : List Pair) → listed (codes "any") (codes " ") setting_text (map setting_of ps) ≡ wants_text (map want_of ps)
wants_text_of [] = refl
wants_text_of (p ∷ ps) =
    ap (λ l. setting_text (setting_of p) ++ l) (flat_map-map (λ s. codes " " ++ setting_text s) setting_of ps ∙ sym (flat_map-map (λ w. codes " " ++ want_text w) want_of ps))

-- the first item and the others behind it
pub shown : {X Y : Type 0} (none between : List ℕ) (text : Y → List ℕ) (view : X → Y) (all rest last : List Y) (x : X) (more : List X) → all ≡ view x ∷ rest → rest ≡ map view more ++ last → last ≡ [] →
    text (view x) ++ flat_map (λ y. between ++ text (view y)) more ≡ listed none between text all
shown none between text view all rest last x more first others end =
    ap (λ l. text (view x) ++ l)
    (sym (flat_map-map (λ y. between ++ text y) view more) ∙ ap (flat_map (λ y. between ++ text y)) (sym (append-nil (map view more)) ∙ ap (λ l. map view more ++ l) (sym end) ∙ sym others))
    ∙ ap (listed none between text) (sym first)
