-- The words of pairs are those of wants and of settings.
use Rattle.std.proofs.Common.{◌≡◌, ◌+◌, ◌*◌, List, [], ◌∷◌, map, length, sym, refl, ap, arith}
use Rattle.std.specs.List.{flat_map}
use Rattle.std.proofs.lemmas.List.{length-map}
use Rattle.packet.specs.declared.pair.Pair.{Pair}
use Rattle.packet.specs.Pairs.{want_of, setting_of}
use Rattle.table.specs.Words.{want_words, wants_words, setting_words, out_words}
use Rattle.leaves.specs.Pairs.{wants_of}
use Rattle.maker.specs.Leaves.{pair_words, pairs_words}

wants_flat : (ps : List Pair) → flat_map pair_words ps ≡ flat_map want_words (wants_of ps)
wants_flat [] = refl
wants_flat (p ∷ ps) = ap (λ l. p.field ∷ (p.value ∷ l)) (wants_flat ps)

settings_flat : (ps : List Pair) → flat_map pair_words ps ≡ flat_map setting_words (map setting_of ps)
settings_flat [] = refl
settings_flat (p ∷ ps) = ap (λ l. p.field ∷ (p.value ∷ l)) (settings_flat ps)

pub as_wants : (ps : List Pair) → pairs_words ps ≡ wants_words (wants_of ps)
as_wants ps = λ i. sym (length-map ps want_of) i ∷ wants_flat ps i

pub as_out : (ps : List Pair) → pairs_words ps ≡ out_words (map setting_of ps)
as_out ps = λ i. sym (length-map ps setting_of) i ∷ settings_flat ps i

flat_long : (ps : List Pair) → length (flat_map pair_words ps) ≡ 2 * length ps
flat_long [] = refl
flat_long (p ∷ ps) = omega (arith, flat_long ps)

pub pairs_long : (ps : List Pair) → length (pairs_words ps) ≡ 2 * length ps + 1
pairs_long ps = omega (arith, flat_long ps)
