-- The versions that a switch holds, when one is added and when one is removed.
use Rattle.std.proofs.Common.{◌≡◌, ℕ, Bool, true, false, cond, not, ◌||◌, T, eqb, ◌⊎◌, List, [], ◌∷◌, ◌++◌, sym, refl, ◌∙◌, subst, inl, inr, ⊎_elim, eqb→eq, T_not}
use lib.Dec.{eqb_refl}
use Rattle.packet.specs.Table.{Table}
use Rattle.run.specs.Net.{Plan}
use Rattle.run.specs.Switch.{Held, knows, table_of, gone, without}
use Rattle.run.specs.Promise.{Holds}
use Rattle.run.proofs.Lists.{by_test, or_cases, or_l, or_r, not_so, neqb}

abbrev pub held : ℕ → Table → Held
held v t = record { version = v; table = t }

same : (v u : ℕ) → v ≡ u → T (eqb v u)
same v u e = subst (λ (n : ℕ). T (eqb v n)) e (eqb_refl v)

-- one more at the end
pub knows_old : (u : ℕ) (x : Held) (xs : List Held) → T (knows u xs) → T (knows u (xs ++ (x ∷ [])))
unfolding knows
knows_old u x [] t = absurd t
knows_old u x (y ∷ ys) t = ⊎_elim (or_l (eqb u y.version) (knows u (ys ++ (x ∷ [])))) (λ z. or_r (eqb u y.version) (knows u (ys ++ (x ∷ []))) (knows_old u x ys z)) (or_cases (eqb u y.version) (knows u ys) t)

pub knows_new : (v : ℕ) (t : Table) (xs : List Held) → T (knows v (xs ++ (held v t ∷ [])))
unfolding knows
knows_new v t [] = or_l (eqb v v) false (eqb_refl v)
knows_new v t (y ∷ ys) = or_r (eqb v y.version) (knows v (ys ++ (held v t ∷ []))) (knows_new v t ys)

pub knows_snoc : (u : ℕ) (x : Held) (xs : List Held) → T (knows u (xs ++ (x ∷ []))) → T (knows u xs) ⊎ (u ≡ x.version)
unfolding knows
knows_snoc u x [] t = ⊎_elim (λ z. inr (eqb→eq u x.version z)) (λ z. inl z) (or_cases (eqb u x.version) false t)
knows_snoc u x (y ∷ ys) t = ⊎_elim (λ z. inl (or_l (eqb u y.version) (knows u ys) z))
    (λ z. ⊎_elim (λ k. inl (or_r (eqb u y.version) (knows u ys) k)) inr (knows_snoc u x ys z))
    (or_cases (eqb u y.version) (knows u (ys ++ (x ∷ []))) t)

table_old : (u : ℕ) (x : Held) (xs : List Held) → T (knows u xs) → table_of u (xs ++ (x ∷ [])) ≡ table_of u xs
unfolding knows table_of
table_old u x [] t = absurd t
table_old u x (y ∷ ys) t = go (eqb u y.version) t (table_old u x ys)
  where
    go : (b : Bool) → T (b || knows u ys) → (T (knows u ys) → table_of u (ys ++ (x ∷ [])) ≡ table_of u ys) → cond b y.table (table_of u (ys ++ (x ∷ []))) ≡ cond b y.table (table_of u ys)
    go true t h = refl
    go false t h = h t

table_new : (v : ℕ) (t : Table) (xs : List Held) → T (not (knows v xs)) → table_of v (xs ++ (held v t ∷ [])) ≡ t
unfolding knows table_of
table_new v t [] n = by_test (λ (u : Table). u ≡ t) (eqb v v) (λ _. refl) (λ k. absurd (T_not (eqb v v) k (eqb_refl v)))
table_new v t (y ∷ ys) n = go (eqb v y.version) n (table_new v t ys)
  where
    go : (b : Bool) → T (not (b || knows v ys)) → (T (not (knows v ys)) → table_of v (ys ++ (held v t ∷ [])) ≡ t) → cond b y.table (table_of v (ys ++ (held v t ∷ []))) ≡ t
    go true n h = absurd n
    go false n h = h n

-- one less
pub knows_without : (v u : ℕ) (xs : List Held) → T (knows u (without v xs)) → T (knows u xs) × (u ≡ v → ⊥)
unfolding knows
knows_without v u [] t = absurd t
knows_without v u (y ∷ ys) t = go (knows_without v u ys)
  where
    go : (T (knows u (without v ys)) → T (knows u ys) × (u ≡ v → ⊥)) → T (eqb u y.version || knows u ys) × (u ≡ v → ⊥)
    go h = by_test (λ (zs : List Held). T (knows u zs) → T (eqb u y.version || knows u ys) × (u ≡ v → ⊥)) (not (gone v y.version))
        (λ n k. ⊎_elim (λ z. (or_l (eqb u y.version) (knows u ys) z, λ e. neqb y.version v n (sym (eqb→eq u y.version z) ∙ e))) later (or_cases (eqb u y.version) (knows u (without v ys)) k))
        (λ _ k. later k) t
      where
        later : T (knows u (without v ys)) → T (eqb u y.version || knows u ys) × (u ≡ v → ⊥)
        later z = (or_r (eqb u y.version) (knows u ys) (h z).0, (h z).1)

-- what is not removed stays, with its table
stays : (v u : ℕ) (xs : List Held) → T (knows u xs) → (u ≡ v → ⊥) → T (knows u (without v xs)) × (table_of u (without v xs) ≡ table_of u xs)
unfolding knows table_of
stays v u [] t n = absurd t
stays v u (y ∷ ys) t n = by_test (λ (zs : List Held). T (knows u zs) × (table_of u zs ≡ table_of u (y ∷ ys))) (not (gone v y.version))
    (λ _. kept (eqb u y.version) t (λ t. stays v u ys t n))
    (λ k. left (eqb u y.version) (λ b. n (eqb→eq u y.version b ∙ eqb→eq y.version v (not_not (eqb y.version v) k))) t (λ t. stays v u ys t n))
  where
    not_not : (b : Bool) → T (not (not b)) → T b
    not_not true t = t
    not_not false t = t

    Stays : Type 0
    Stays = T (knows u ys) → T (knows u (without v ys)) × (table_of u (without v ys) ≡ table_of u ys)

    kept : (b : Bool) → T (b || knows u ys) → Stays → T (b || knows u (without v ys)) × (cond b y.table (table_of u (without v ys)) ≡ cond b y.table (table_of u ys))
    kept true t h = (tt, refl)
    kept false t h = h t

    left : (b : Bool) → (T b → ⊥) → T (b || knows u ys) → Stays → T (knows u (without v ys)) × (table_of u (without v ys) ≡ cond b y.table (table_of u ys))
    left true n t h = absurd (n tt)
    left false n t h = h t

-- the same versions, said otherwise
pub holds_as : {a : ℕ → Plan} {i : ℕ} {V U : ℕ → Type 0} {xs : List Held} → ((v : ℕ) → V v → U v) → ((v : ℕ) → U v → V v) → Holds a i V xs → Holds a i U xs
holds_as f g h = record { only = λ v t. f v (h.only v t); all = λ v u. h.all v (g v u); tables = λ v u. h.tables v (g v u) }

pub holds_more : (a : ℕ → Plan) (i : ℕ) {V : ℕ → Type 0} (xs : List Held) (v : ℕ) (t : Table) → t ≡ (a v).table i → T (not (knows v xs)) → Holds a i V xs → Holds a i (λ u. V u ⊎ (u ≡ v)) (xs ++ (held v t ∷ []))
holds_more a i {V} xs v t e n h = record {
  only = λ u k. ⊎_elim (λ z. inl (h.only u z)) inr (knows_snoc u (held v t) xs k);
  all = λ u. ⊎_elim (λ z. knows_old u (held v t) xs (h.all u z)) (λ z. subst (λ (x : ℕ). T (knows x (xs ++ (held v t ∷ [])))) (sym z) (knows_new v t xs));
  tables = λ u. ⊎_elim (λ z. table_old u (held v t) xs (h.all u z) ∙ h.tables u z) (λ z. subst (λ (x : ℕ). table_of x (xs ++ (held v t ∷ [])) ≡ (a x).table i) (sym z) (table_new v t xs n ∙ e));
}

pub holds_less : (a : ℕ → Plan) (i : ℕ) {V : ℕ → Type 0} (xs : List Held) (v : ℕ) → Holds a i V xs → Holds a i (λ u. V u × (u ≡ v → ⊥)) (without v xs)
holds_less a i xs v h = record {
  only = λ u k. let z = knows_without v u xs k in (h.only u z.0, z.1);
  all = λ u z. (stays v u xs (h.all u z.0) z.1).0;
  tables = λ u z. (stays v u xs (h.all u z.0) z.1).1 ∙ h.tables u z.0;
}

-- what was there is there or was the one removed
pub knows_less : (v u : ℕ) (xs : List Held) → T (knows u xs) → T (knows u (without v xs)) ⊎ (u ≡ v)
knows_less v u xs t = go (eqb u v) (eqb→eq u v) (neqb u v)
  where
    go : (b : Bool) → (T b → u ≡ v) → (T (not b) → u ≡ v → ⊥) → T (knows u (without v xs)) ⊎ (u ≡ v)
    go true e n = inr (e tt)
    go false e n = inl (stays v u xs t (n tt)).0

-- the removed one is not there
pub knows_removed : (v : ℕ) (xs : List Held) → T (not (knows v (without v xs)))
knows_removed v xs = not_so (knows v (without v xs)) (λ t. (knows_without v v xs t).1 refl)

-- a switch with one table
pub holds_one : (a : ℕ → Plan) (i v : ℕ) (t : Table) → t ≡ (a v).table i → Holds a i (λ u. u ≡ v) (held v t ∷ [])
unfolding knows
holds_one a i v t e = holds_as (λ u. ⊎_elim absurd (λ z. z)) (λ u. inr) (holds_more a i {V = λ _. ⊥} [] v t e tt (record { only = λ u k. k; all = λ u z. absurd z; tables = λ u z. absurd z }))
