-- Copies that are gathered, one after the other: they are few, and each is there once.
use Rattle.std.proofs.Common.{◌≡◌, ℕ, ◌≤◌, true, false, cond, List, [], ◌∷◌, ◌++◌, length, Result, Ok, Err, IsOk, refl, sym, ap, ◌∙◌, arith}
use Rattle.std.proofs.lemmas.Bool.{ltb-true}
use Rattle.std.proofs.lemmas.List.{append_assoc}
use Rattle.octets.specs.declared.fault.Fault.{Fault}
use Rattle.packet.specs.Copies.{Took}
use Rattle.packet.specs.declared.copies.Copies.{Copies}
use Rattle.packet.specs.Packet.{Packet, same_packet, others, once}
use Rattle.packet.specs.Table.{Setting, set_all, outputs}
use Rattle.packet.proofs.Once.{once_once, once_grows}

others_short : (p : Packet) (qs : List Packet) → length (others p qs) ≤ length qs
unfolding others
others_short p [] = omega arith
others_short p (q ∷ qs) =
    elim (same_packet p q) as (λ b. length (cond b (others p qs) (q ∷ others p qs)) ≤ length (q ∷ qs))
    [ true ↦ omega (arith, others_short p qs) | false ↦ omega (arith, others_short p qs) ]

once_short : (ps : List Packet) → length (once ps) ≤ length ps
unfolding once
once_short [] = omega arith
once_short (p ∷ ps) = omega (arith, others_short p (once ps), once_short ps)

outputs_few : (os : List (List Setting)) (p : Packet) → length (outputs os p) ≤ length os
unfolding outputs
outputs_few [] p = omega arith
outputs_few (o ∷ os) p = omega (arith, outputs_few os p)

-- one out more, of which q is the copy
module _ (sent : List Packet) (all more rest : List (List Setting)) (o : List Setting) (p q : Packet) (is : more ≡ o ∷ rest) (copy : q ≡ set_all o p)
    (so : once (sent ++ outputs more p) ≡ once (outputs all p)) where
  one_more : once ((sent ++ q ∷ []) ++ outputs rest p) ≡ once (outputs all p)
  unfolding outputs
  one_more =
      ap once (append_assoc sent (q ∷ []) (outputs rest p))
      ∙ ap (λ c. once (sent ++ c ∷ outputs rest p)) copy
      ∙ ap (λ os. once (sent ++ outputs os p)) (sym is)
      ∙ so

  pub gather : (now : List Packet) → now ≡ once (sent ++ q ∷ []) → once (now ++ outputs rest p) ≡ once (outputs all p)
  gather now e = ap (λ l. once (l ++ outputs rest p)) e ∙ once_once (sent ++ q ∷ []) (outputs rest p) ∙ one_more

  fits : length (once (sent ++ q ∷ [])) ≤ length all
  fits = omega (arith, once_grows (sent ++ q ∷ []) (outputs rest p), ap length one_more, once_short (outputs all p), outputs_few all p)

  pub gathers : {n : ℕ} (r : Result (Unit {0}) Fault) (s : Copies n) → length all ≤ n → Took n (sent ++ q ∷ []) r s → IsOk r
  gathers (Ok d) s few t = refl
  gathers {n} (Err e) s few t = absurd (omega (arith, fits, ltb-true n (length (once (sent ++ q ∷ []))) t.0))
