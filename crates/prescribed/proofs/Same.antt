-- What the comparisons of rules and of lists compare.
use Rattle.std.proofs.Common.{◌≡◌, ℕ, Bool, ◌&&◌, eqb, [], ◌∷◌, Decides, refl, ap}
use Rattle.std.proofs.lemmas.Bool.{false≢true, and_parts, and_from, eqb-true, eq-eqb}
use Rattle.prescribed.specs.Table.{same_want, same_setting, same_list, same_rule}

-- a test of whether two elements are the same
abbrev pub Compares : {A : Type 0} → (A → A → Bool) → Type 0
Compares {A} same = (x y : A) → Decides (same x y) (x ≡ y)

-- things that are a field with a value
compares_by : {A : Type 0} (at value : A → ℕ) → ((v w : A) → at v ≡ at w → value v ≡ value w → v ≡ w) → Compares (λ v w. eqb (at v) (at w) && eqb (value v) (value w))
compares_by at value same v w = (
  λ h. let k = and_parts _ _ h in same v w (eqb-true (at v) (at w) k.0) (eqb-true (value v) (value w) k.1),
  λ e. and_from _ _ (eq-eqb (at v) (at w) (ap at e)) (eq-eqb (value v) (value w) (ap value e)),
)

pub compares_wants : Compares same_want
compares_wants = compares_by (λ v. v.at) (λ v. v.value) (λ v w e d i. record { at = e i; value = d i })

pub compares_settings : Compares same_setting
compares_settings = compares_by (λ s. s.at) (λ s. s.value) (λ s t e d i. record { at = e i; value = d i })

pub compares_lists : {A : Type 0} (same : A → A → Bool) → Compares same → Compares (same_list same)
unfolding same_list
compares_lists same h [] [] = (λ e. refl, λ e. refl)
compares_lists same h [] (y ∷ ys) = (λ e. absurd (false≢true e), λ e. cc)
compares_lists same h (x ∷ xs) [] = (λ e. absurd (false≢true e), λ e. cc)
compares_lists same h (x ∷ xs) (y ∷ ys) = (
  λ e. let k = and_parts _ _ e in let first = (h x y).0 k.0 in let rest = (compares_lists same h xs ys).0 k.1 in λ i. first i ∷ rest i,
  λ e. let first : x ≡ y = cc in let rest : xs ≡ ys = cc in and_from _ _ ((h x y).1 first) ((compares_lists same h xs ys).1 rest),
)

pub compares_rules : Compares same_rule
compares_rules q r =
    let wants = compares_lists same_want compares_wants q.wants r.wants in
    let outs = compares_lists (same_list same_setting) (compares_lists same_setting compares_settings) q.outs r.outs in (
      λ h. let k = and_parts _ _ h in let e = wants.0 k.0 in let d = outs.0 k.1 in λ i. record { wants = e i; outs = d i },
      λ e. and_from _ _ (wants.1 (ap (λ t. t.wants) e)) (outs.1 (ap (λ t. t.outs) e)),
    )
