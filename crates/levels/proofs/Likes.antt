-- Packets that came in the same way: what keeps them so, and what is the same of them.
use Rattle.std.proofs.Common.{◌≡◌, ℕ, suc, ◌+◌, ◌<◌, ◌≤◌, true, false, cond, eqb, List, [], ◌∷◌, map, length, get_or, set, sym, refl, ap, ◌∙◌, subst, ⊎_elim, arith, length-set}
use Rattle.std.specs.List.{AllZip}
use Rattle.std.proofs.lemmas.List.Elements.{length_all_zip}
use Rattle.std.proofs.lemmas.Slice.Eq.{bytes_eq-Decides}
use Rattle.std.proofs.lemmas.Bool.Decides.{same_from_decides, Decides-like}
use Rattle.std.proofs.lemmas.List.{get_or-set_same, get_or-set_other, set_past, ext_get_or}
use Rattle.std.proofs.lemmas.Bool.{cases_Bool, cases_eq, cases_lt, both_ways, eqb-true, eq-eqb, ne_eqb, cond-true, cond-false}
use Rattle.packet.specs.Packet.{Packet, field, put, same_packet, others, once}
use Rattle.prescribed.specs.Table.{changes}
use Rattle.levels.specs.Like.{LikeAt, Like, Agree}

pub agree_less : (m n : ℕ) (p r : Packet) → m ≤ n → Agree n p r → Agree m p r
agree_less m n p r le h f lt = h f (omega arith)

-- as they began
pub like_start : (p r : Packet) → length p ≡ 8 → length r ≡ 8 → Like p r p r
like_start p r e d = record {
  eight = (e, d);
  at = λ f. (eq-eqb (field f p) (field f p) refl ∙ sym (eq-eqb (field f r) (field f r) refl), λ h. absurd (both_ways (eqb (field f p) (field f p)) h (eq-eqb (field f p) (field f p) refl)));
}

moved : (x y v w a b : ℕ) → a ≡ v → b ≡ w → LikeAt x y v w → LikeAt x y a b
moved x y v w a b d e h = subst (λ n. LikeAt x y n b) (sym d) (subst (λ n. LikeAt x y v n) (sym e) h)

pub like_put : (p r q s : Packet) (f x : ℕ) → (f < 8 → eqb x (field f p) ≡ eqb x (field f r)) → Like p r q s → Like p r (put f x q) (put f x s)
like_put p r q s f x fair k =
    record {
      eight = (length-set q f x ∙ k.eight.0, length-set s f x ∙ k.eight.1);
      at = λ g. ⊎_elim
          (λ e. ⊎_elim
          (λ lt.
          moved (field g p) (field g r) x x _ _ (ap (λ n. get_or (set q f x) n 0) e ∙ get_or-set_same q f x 0 (omega (arith, k.eight.0)))
          (ap (λ n. get_or (set s f x) n 0) e ∙ get_or-set_same s f x 0 (omega (arith, k.eight.1)))
          (subst (λ n. LikeAt (field n p) (field n r) x x) (sym e) (fair lt, λ h. refl)))
          (λ le.
          moved (field g p) (field g r) (field g q) (field g s) _ _ (ap (field g) (set_past q f x (omega (arith, k.eight.0)))) (ap (field g) (set_past s f x (omega (arith, k.eight.1)))) (k.at g))
          (cases_lt f 8))
          (λ ne. moved (field g p) (field g r) (field g q) (field g s) _ _ (get_or-set_other q f g x 0 ne) (get_or-set_other s f g x 0 ne) (k.at g))
          (cases_eq g f);
    }

-- the same at a field: as p and r agree there, or as a put has set it
pub like_field : (x y v w : ℕ) → LikeAt x y v w → (eqb v x ≡ true → x ≡ y) → v ≡ w
like_field x y v w h same =
    ⊎_elim (λ t. eqb-true v x t ∙ same t ∙ sym (eqb-true w y (sym h.0 ∙ t))) (λ t. h.1 t) (cases_Bool (eqb v x))

-- the other way round
like_back : (p r q s : Packet) → Like p r q s → Like r p s q
like_back p r q s k = record { eight = (k.eight.1, k.eight.0); at = λ f. (sym (k.at f).0, λ h. sym ((k.at f).1 ((k.at f).0 ∙ h))) }

-- one packet came of two ways where the other did
values_same : (x y v w a b : ℕ) → LikeAt x y v w → LikeAt x y a b → v ≡ a → w ≡ b
values_same x y v w a b h k e =
    ⊎_elim
    (λ t.
    let u : eqb a x ≡ true = ap (λ n. eqb n x) (sym e) ∙ t in
    eqb-true w y (sym h.0 ∙ t) ∙ sym (eqb-true b y (sym k.0 ∙ u)))
    (λ t.
    let u : eqb a x ≡ false = ap (λ n. eqb n x) (sym e) ∙ t in
    sym (h.1 t) ∙ e ∙ k.1 u)
    (cases_Bool (eqb v x))

same_too : (p r q s t u : Packet) → Like p r q s → Like p r t u → q ≡ t → s ≡ u
same_too p r q s t u h k e =
    ext_get_or 0 s u (h.eight.1 ∙ sym k.eight.1) (λ g below. values_same (field g p) (field g r) (field g q) (field g s) (field g t) (field g u) (h.at g) (k.at g) (ap (field g) e))

pub like_same : (p r q s t u : Packet) → Like p r q s → Like p r t u → same_packet q t ≡ same_packet s u
like_same p r q s t u h k =
    same_from_decides _ _ (bytes_eq-Decides q t)
    (Decides-like _ (same_too r p s q u t (like_back p r q s h) (like_back p r t u k)) (same_too p r q s t u h k) (bytes_eq-Decides s u))

-- each once
module _ (p r : Packet) where
  each_others : (q s : Packet) (qs ss : List Packet) → Like p r q s → AllZip (Like p r) qs ss → AllZip (Like p r) (others q qs) (others s ss)
  unfolding others
  each_others q s [] [] h k = k
  each_others q s [] (u ∷ us) h k = absurd k
  each_others q s (t ∷ ts) [] h k = absurd k
  each_others q s (t ∷ ts) (u ∷ us) h k =
      subst (λ b. AllZip (Like p r) (cond (same_packet q t) (others q ts) (t ∷ others q ts)) (cond b (others s us) (u ∷ others s us))) (like_same p r q s t u h k.0)
      (elim (same_packet q t) as (λ b. AllZip (Like p r) (cond b (others q ts) (t ∷ others q ts)) (cond b (others s us) (u ∷ others s us))) [
        | true ↦ each_others q s ts us h k.1
        | false ↦ (k.0, each_others q s ts us h k.1)
      ])

  each_once : (qs ss : List Packet) → AllZip (Like p r) qs ss → AllZip (Like p r) (once qs) (once ss)
  unfolding once
  each_once [] [] k = k
  each_once [] (u ∷ us) k = absurd k
  each_once (t ∷ ts) [] k = absurd k
  each_once (t ∷ ts) (u ∷ us) k = (k.0, each_others t u (once ts) (once us) k.0 (each_once ts us k.1))

  pub as_many : (qs ss : List Packet) → AllZip (Like p r) qs ss → length (once qs) ≡ length (once ss)
  as_many qs ss k = length_all_zip (Like p r) (once qs) (once ss) (each_once qs ss k)

eqb_swap : (m n : ℕ) → eqb m n ≡ eqb n m
eqb_swap m n =
    ⊎_elim
    (λ e. eq-eqb m n e ∙ sym (eq-eqb n m (sym e)))
    (λ ne. ne_eqb m n ne ∙ sym (ne_eqb n m (λ e. ne (sym e))))
    (cases_eq m n)

-- what was set of the one was set of the other
changes_like : (f : ℕ) (xs ys vs ws : Packet) → length xs ≡ length vs → length ys ≡ length ws → length xs ≡ length ys →
    ((g : ℕ) → LikeAt (get_or xs g 0) (get_or ys g 0) (get_or vs g 0) (get_or ws g 0)) → changes f xs vs ≡ changes f ys ws
unfolding changes
changes_like f [] [] [] [] a b c h = refl
changes_like f [] [] [] (w ∷ ws) a b c h = absurd (omega arith)
changes_like f [] [] (v ∷ vs) ws a b c h = absurd (omega arith)
changes_like f [] (y ∷ ys) vs ws a b c h = absurd (omega arith)
changes_like f (x ∷ xs) [] vs ws a b c h = absurd (omega arith)
changes_like f (x ∷ xs) (y ∷ ys) [] ws a b c h = absurd (omega arith)
changes_like f (x ∷ xs) (y ∷ ys) (v ∷ vs) [] a b c h = absurd (omega arith)
changes_like f (x ∷ xs) (y ∷ ys) (v ∷ vs) (w ∷ ws) a b c h =
    let more = changes_like (f + 1) xs ys vs ws (omega arith) (omega arith) (omega arith) (λ g. h (suc g)) in
    let back : eqb x v ≡ eqb v x = eqb_swap x v in
    let forth : eqb w y ≡ eqb y w = eqb_swap w y in
    let same : eqb x v ≡ eqb y w = back ∙ (h 0).0 ∙ forth in
    ⊎_elim
    (λ t. cond-true (eqb x v) _ _ t ∙ more ∙ sym (cond-true (eqb y w) _ _ (sym same ∙ t)))
    (λ t.
    cond-false (eqb x v) _ _ t ∙ (λ i. record { at = f; value = (h 0).1 (sym back ∙ t) i } ∷ more i)
    ∙ sym (cond-false (eqb y w) _ _ (sym same ∙ t)))
    (cases_Bool (eqb x v))

pub changed_alike : (p r : Packet) (qs ss : List Packet) → length p ≡ 8 → length r ≡ 8 → AllZip (Like p r) qs ss → map (changes 0 p) qs ≡ map (changes 0 r) ss
changed_alike p r [] [] e d k = refl
changed_alike p r [] (s ∷ ss) e d k = absurd k
changed_alike p r (q ∷ qs) [] e d k = absurd k
changed_alike p r (q ∷ qs) (s ∷ ss) e d k =
    let h = k.0 in
    let first = changes_like 0 p r q s (e ∙ sym h.eight.0) (d ∙ sym h.eight.1) (e ∙ sym d) h.at in
    let rest = changed_alike p r qs ss e d k.1 in
    λ i. first i ∷ rest i
