-- A tree that names neither of two values of a field does the same to packets that differ in having one or the other.
use Rattle.std.proofs.Common.{◌≡◌, ℕ, zero, suc, ◌<◌, Bool, true, false, cond, eqb, ◌≢◌, List, [], ◌∷◌, map, length, get_or, set, Some, None, Option, sym, refl, ap, ◌∙◌, subst, ⊎_elim, arith, eq-eqb, ne_eqb}
use Rattle.std.proofs.lemmas.List.{get_or-set_same, get_or-set_other, set-set, set-get_or, length-set}
use Rattle.std.proofs.lemmas.Bool.{cases_eq, cond-true, cond-false}
use Rattle.std.specs.Option.{unwrap_or}
use Rattle.packet.specs.Packet.{Packet, put, field}
use Rattle.trees.specs.Outs.{Out, applied}
use Rattle.trees.specs.Trees.{Tree, none, also, test, copies_by, Alike}
use Rattle.trees.specs.Names.{Unnamed}
use Rattle.trees.proofs.Applied.{none_some}
use Rattle.trees.proofs.Alikes.{set_map, set_is, set_then, set_back}

applied_field : (o : Out) (p : Packet) (f : ℕ) → f < length p → field f (applied o p) ≡ unwrap_or (get_or o f None) (field f p)
unfolding applied
applied_field [] p f h = refl
applied_field (v ∷ o) [] f h = absurd (omega arith)
applied_field (v ∷ o) (x ∷ p) zero h = refl
applied_field (v ∷ o) (x ∷ p) (suc f) h = applied_field o p f (omega arith)

put_kept : (o : Out) (p : Packet) (f y : ℕ) → get_or o f None ≡ None → applied o (put f y p) ≡ put f y (applied o p)
unfolding applied
put_kept [] p f y e = refl
put_kept (v ∷ o) [] zero y e = refl
put_kept (v ∷ o) [] (suc f) y e = refl
put_kept (v ∷ o) (x ∷ p) zero y e = ap (λ w. w ∷ applied o p) (ap (λ w. unwrap_or w y) e)
put_kept (v ∷ o) (x ∷ p) (suc f) y e = ap (λ l. unwrap_or v x ∷ l) (put_kept o p f y e)

put_set : (o : Out) (p : Packet) (f y w : ℕ) → get_or o f None ≡ Some w → applied o (put f y p) ≡ applied o p
unfolding applied
put_set [] p f y w e = absurd (none_some e)
put_set (v ∷ o) [] zero y w e = refl
put_set (v ∷ o) [] (suc f) y w e = refl
put_set (v ∷ o) (x ∷ p) zero y w e = ap (λ u. u ∷ applied o p) (ap (λ u. unwrap_or u y) e ∙ sym (ap (λ u. unwrap_or u x) e))
put_set (v ∷ o) (x ∷ p) (suc f) y w e = ap (λ l. unwrap_or v x ∷ l) (put_set o p f y w e)

-- a copy in which the field has the value z gets y there
moved : ℕ → ℕ → ℕ → Packet → Packet
moved f z y c = cond (eqb (field f c) z) (put f y c) c

-- p has the value z
module _ (f z y : ℕ) (p : Packet) (low : f < length p) (is : field f p ≡ z) where
  moved_applied : (o : Out) (v : Option ℕ) → get_or o f None ≡ v → (get_or o f None ≡ Some z → ⊥) → applied o (put f y p) ≡ moved f z y (applied o p)
  unfolding moved
  moved_applied o None e out =
      put_kept o p f y e
      ∙ sym (cond-true _ _ _ (eq-eqb (field f (applied o p)) z (applied_field o p f low ∙ ap (λ v. unwrap_or v (field f p)) e ∙ is)))
  moved_applied o (Some w) e out =
      put_set o p f y w e
      ∙ sym (cond-false _ _ _ (ne_eqb (field f (applied o p)) z (λ q. out (e ∙ ap Some (sym (applied_field o p f low ∙ ap (λ v. unwrap_or v (field f p)) e) ∙ q)))))

  same_test : (g x : ℕ) → (g ≡ f → x ≡ y → ⊥) → (g ≡ f → x ≡ z → ⊥) → eqb (field g (put f y p)) x ≡ eqb (field g p) x
  same_test g x ny nz =
      ⊎_elim
      (λ e. ne_eqb _ _ (λ q. ny e (sym (sym (get_or-set_same p f y 0 low) ∙ ap (λ k. get_or (set p f y) k 0) (sym e) ∙ q)))
      ∙ sym (ne_eqb _ _ (λ q. nz e (sym (sym is ∙ ap (λ k. get_or p k 0) (sym e) ∙ q)))))
      (λ ne. let other : g ≢ f = ne in ap (λ v. eqb v x) (get_or-set_other p f g y 0 other)) (cases_eq g f)

  by_test : (b : Bool) (k l m n : List Packet) → k ≡ map (moved f z y) m → l ≡ map (moved f z y) n → cond b k l ≡ map (moved f z y) (cond b m n)
  by_test true k l m n e g = e
  by_test false k l m n e g = g

  moved_copies : (t : Tree) → Unnamed f y t → Unnamed f z t → copies_by t (put f y p) ≡ map (moved f z y) (copies_by t p)
  unfolding copies_by
  moved_copies none uy uz = refl
  moved_copies (also o t) uy uz =
      ap (λ c. c ∷ copies_by t (put f y p)) (moved_applied o (get_or o f None) refl uz.0) ∙ ap (λ l. moved f z y (applied o p) ∷ l) (moved_copies t uy.1 uz.1)
  moved_copies (test g x a b) uy uz =
      ap (λ v. cond v (copies_by a (put f y p)) (copies_by b (put f y p))) (same_test g x uy.0 uz.0)
      ∙ by_test (eqb (field g p) x) _ _ (copies_by a p) (copies_by b p) (moved_copies a uy.1 uz.1) (moved_copies b uy.2 uz.2)

-- so what holds of one holds of the other
pub alike_moved : (a b : Tree) (f y z : ℕ) (p : Packet) → f < length p → field f p ≡ y → Unnamed f y a → Unnamed f z a → Unnamed f y b → Unnamed f z b →
    Alike a b (put f z p) → Alike a b p
alike_moved a b f y z p low is ya za yb zb h =
    let q = put f z p in
    let longer : f < length q = omega (arith, length-set p f z) in
    let at : field f q ≡ z = get_or-set_same p f z 0 low in
    let back : put f y q ≡ p = set-set p f z y ∙ ap (λ v. set p f v) (sym is) ∙ set-get_or p f 0 in
    subst (Alike a b) back
    (set_then (set_is (moved_copies f z y q longer at a ya za))
    (set_then (set_map (moved f z y) h) (set_back (set_is (moved_copies f z y q longer at b yb zb)))))
