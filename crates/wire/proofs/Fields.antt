-- The fields of a packet, read one by one.
use Rattle.std.proofs.Common.{◌≡◌, ℕ, suc, ◌+◌, ◌-◌, ◌<◌, List, [], ◌∷◌, ◌++◌, length, get_or, set, take, drop, sym, ap, ◌∙◌, lit<, arith}
use Rattle.std.proofs.lemmas.List.{take_more_set, drop_more, drop_all}
use Rattle.octets.specs.Parse.{Read, and_then, word}
use Rattle.wire.specs.Frames.{fields}

-- one field more, stored where it belongs
pub fields_more : (n i first x : ℕ) (ps bs rest : List ℕ) → i < n → length ps ≡ n → Read x rest ≡ word bs →
    fields (n - (i + 1)) (first ∷ take (i + 1) (set ps i x)) rest ≡ fields (n - i) (first ∷ take i ps) bs
fields_more n i first x ps bs rest lt len e =
    let one : n - i ≡ suc (n - (i + 1)) = omega arith in
    ap (λ l. fields (n - (i + 1)) (first ∷ l) rest) (take_more_set ps i x (omega (arith, len)))
    ∙ ap (λ g. and_then g (λ y r. fields (n - (i + 1)) ((first ∷ take i ps) ++ y ∷ []) r)) e
    ∙ ap (λ k. fields k (first ∷ take i ps) bs) (sym one)

-- the eight fields of a packet, one by one
pub eight : (ps : List ℕ) → length ps ≡ 8 →
    ps ≡ get_or ps 0 0 ∷ (get_or ps 1 0 ∷ (get_or ps 2 0 ∷ (get_or ps 3 0 ∷ (get_or ps 4 0 ∷ (get_or ps 5 0 ∷ (get_or ps 6 0 ∷ (get_or ps 7 0 ∷ [])))))))
eight ps h =
    let more : (i : ℕ) → i < 8 → drop i ps ≡ get_or ps i 0 ∷ drop (i + 1) ps = λ i lt. drop_more ps i 0 (omega arith) in
    let a = more 0 (lit< tt) in
    let b = more 1 (lit< tt) in
    let d = more 2 (lit< tt) in
    let e = more 3 (lit< tt) in
    let f = more 4 (lit< tt) in
    let g = more 5 (lit< tt) in
    let i = more 6 (lit< tt) in
    let j = more 7 (lit< tt) in
    let k : drop 8 ps ≡ [] = drop_all 8 ps (omega arith) in
    cc
