-- A cable with its marks: one more at its end, one less anywhere, and a later stage.
use Rattle.std.proofs.Common.{◌≡◌, ℕ, ◌+◌, ◌<◌, ◌≤◌, List, [], ◌∷◌, ◌++◌, sym, refl, subst, ⊎_elim}
use mathlib.Core.List.Memᴰ
use mathlib.Core.List.{Memᴰ}
use Rattle.run.specs.Net.{Net, Plan}
use Rattle.run.specs.Switch.{Mark}
use Rattle.run.specs.Run.{Carried, Item, frame, mark}
use Rattle.run.proofs.Inv.{Time, left, Ripe, Fine, Behind, Line}
use Rattle.run.proofs.Lists.{snoc_cases, mem_more}

behind_less : (h : ℕ) (x : Item) (xs ys : List Item) → ((c : Carried) → Memᴰ (frame c) ys → Memᴰ (frame c) xs) → Behind h x xs → Behind h x ys
behind_less h (frame c) xs ys f b = tt
behind_less h (mark k) xs ys f b = λ c m. b c (f c m)

-- an item that may stand behind every mark that is about
abbrev pub Last : Net → Time → Item → Type 0
Last w m x = (k : Mark) → Ripe m k → (c : Carried) → frame c ≡ x → c.frame.version < k.version → left c.frame + 1 + k.round ≤ w.hops

module _ (w : Net) (a : ℕ → Plan) (m : Time) (i : ℕ) where
  pub line_snoc : (xs : List Item) (y : Item) → Line w a m i xs → Fine w a m i y → Last w m y → Line w a m i (xs ++ (y ∷ []))
  line_snoc [] y l f new = (f, none y, tt)
    where
      none : (y : Item) → Behind w.hops y []
      none (frame c) = tt
      none (mark k) = λ c m. elim m [ ]
  line_snoc (x ∷ xs) y l f new = (l.0, go x l.0 l.1, line_snoc xs y l.2 f new)
    where
      go : (x : Item) → Fine w a m i x → Behind w.hops x xs → Behind w.hops x (xs ++ (y ∷ []))
      go (frame c) g b = tt
      go (mark k) g b = λ c z. ⊎_elim (b c) (λ e. new k g c e) (snoc_cases xs z)

  pub line_drop : (x : Item) (front rest : List Item) → Line w a m i (front ++ (x ∷ rest)) → Line w a m i (front ++ rest)
  line_drop x [] rest l = l.2
  line_drop x (y ∷ front) rest l = (l.0, behind_less w.hops y (front ++ (x ∷ rest)) (front ++ rest) (λ c z. mem_more x (frame c) front rest z) l.1, line_drop x front rest l.2)

  pub line_has : (xs : List Item) (x : Item) → Line w a m i xs → Memᴰ x xs → Fine w a m i x
  line_has [] x l z = elim z [ ]
  line_has (y ∷ xs) x l z = ⊎_elim (λ e. subst (Fine w a m i) (sym e) l.0) (line_has xs x l.2) (Memᴰ.cases_cons z)

  pub line_later : (n : Time) (xs : List Item) → ((x : Item) → Memᴰ x xs → Fine w a m i x → Fine w a n i x) → Line w a m i xs → Line w a n i xs
  line_later n [] f l = tt
  line_later n (x ∷ xs) f l = (f x (Memᴰ.head refl) l.0, l.1, line_later n xs (λ y z. f y (Memᴰ.tail z)) l.2)
