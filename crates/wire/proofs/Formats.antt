-- How a format's laws follow from those of its parts.
use Rattle.std.proofs.Common.{◌≡◌, ℕ, ◌<◌, Bool, true, false, cond, List, [], ◌∷◌, ◌++◌, length, take, sym, refl, ap, ◌∙◌, arith}
use Rattle.std.proofs.lemmas.List.{append-nil, append_assoc}
use Rattle.octets.specs.Parse.{Got, Read, Bad, and_then, check, ended, Bytes}
use Rattle.octets.specs.Streams.{Consumes, Streams}
use Rattle.octets.proofs.Streams.{never, streams_check, streams_then}
use Rattle.octets.proofs.Spells.{Spelt, Spells, spells_read, spells_bad, spells_check, spells_then}
use Rattle.octets.proofs.Yields.{Yields, yields_read, yields_bad, yields_check, yields_then, yields_any}
use Rattle.octets.specs.Parse.{tested, alone}
use Rattle.wire.specs.Laws.{Exact}

-- A number that is tested: it streams, is spelt as before, and passes the test.
pub streams_tested : (reader : List ℕ → Got ℕ) (test : ℕ → Bool) (fault : ℕ) → Streams reader → Streams (tested reader test fault)
streams_tested reader test fault h = streams_then reader _ h (λ x. streams_check (test x) fault x)

then_nothing : (u w : List ℕ) → w ≡ [] → u ++ w ≡ u
then_nothing u w e = ap (λ l. u ++ l) e ∙ append-nil u

pub spells_tested : (spell : ℕ → List ℕ) (reader : List ℕ → Got ℕ) (test : ℕ → Bool) (fault : ℕ) →
    Spells reader (λ x u. u ≡ spell x) → Spells (tested reader test fault) (λ x u. u ≡ spell x)
spells_tested spell reader test fault h =
    spells_then (λ x u. u ≡ spell x) (λ x y w. (x ≡ y) × (w ≡ [])) _ reader (λ x r. check (test x) fault x r)
    (λ x y u w p q. then_nothing u w q.1 ∙ p ∙ ap spell q.0) h
    (λ x. spells_check (λ y w. (x ≡ y) × (w ≡ [])) (test x) fault x (refl, refl))

pub yields_tested : (reader : List ℕ → Got ℕ) (test : ℕ → Bool) (fault : ℕ) → Yields (tested reader test fault) (λ x. test x ≡ true)
yields_tested reader test fault =
    yields_then (λ x. Unit {0}) _ reader _ (yields_any reader) (λ x _. yields_check (λ y. test y ≡ true) (test x) fault x (λ t. t))

-- the bytes `front` were read before: with those that are read now they are what is written of y
abbrev pub Behind : {Y : Type 0} → List ℕ → (Y → List ℕ) → Y → List ℕ → Type 0
Behind front written y used = front ++ used ≡ written y

-- What a reader behind `front` gives is good and is spelt as it is written.
pub record Fine {Y : Type 0} (front : List ℕ) (written : Y → List ℕ) (Good : Y → Type 0) (reader : List ℕ → Got Y) : Type 0 where
  pub spells : Spells reader (Behind front written)
  pub yields : Yields reader Good

module _ {Y : Type 0} (written : Y → List ℕ) (Good : Y → Type 0) where
  pub fine_end : (front : List ℕ) (y : Y) → front ≡ written y → Good y → Fine front written Good (λ bs. Read y bs)
  fine_end front y e g =
      record { spells = spells_read (Behind front written) y (append-nil front ∙ e); yields = yields_read Good y g }

  pub fine_bad : (front : List ℕ) (n : ℕ) → Fine front written Good (λ bs. Bad n)
  fine_bad front n = record { spells = spells_bad (Behind front written) n; yields = yields_bad Good n }

  pub fine_cond : (front : List ℕ) (t : Bool) (p q : List ℕ → Got Y) → (t ≡ true → Fine front written Good p) → Fine front written Good q →
      Fine front written Good (λ bs. cond t (p bs) (q bs))
  fine_cond front true p q hp hq = hp refl
  fine_cond front false p q hp hq = hq

  -- a part in front, of which P holds
  pub fine_on : {X : Type 0} (front : List ℕ) (spell : X → List ℕ) (P : X → Type 0) (p : List ℕ → Got X) (f : X → List ℕ → Got Y) →
      Spells p (λ x u. u ≡ spell x) → Yields p P → ((x : X) → P x → Fine (front ++ spell x) written Good (f x)) →
      Fine front written Good (λ bs. and_then (p bs) f)
  fine_on {X} front spell P p f hp hy hf =
      record { spells = both; yields = yields_then P Good p f hy (λ x h. (hf x h).yields) }
    where
      joined : (bs rest mid : List ℕ) (x : X) (y : Y) → Spelt (λ z u. u ≡ spell z) bs x mid →
          (Bytes mid → Spelt (Behind (front ++ spell x) written) mid y rest) → Spelt (Behind front written) bs y rest
      joined bs rest mid x y a more =
          let c = more a.clean in
          record {
            used = a.used ++ c.used;
            whole = a.whole ∙ ap (λ l. a.used ++ l) c.whole ∙ sym (append_assoc a.used c.used rest);
            is = ap (λ l. front ++ (l ++ c.used)) a.is ∙ sym (append_assoc front (spell x) c.used) ∙ c.is;
            clean = c.clean;
          }

      both : Spells (λ bs. and_then (p bs) f) (Behind front written)
      both bs y rest clean e = go (p bs) refl e
        where
          go : (g : Got X) → p bs ≡ g → and_then g f ≡ Read y rest → Spelt (Behind front written) bs y rest
          go (Read x mid) is h = joined bs rest mid x y (hp bs x mid clean is) (λ b. (hf x (hy bs x mid is)).spells mid y rest b h)
          go (Bad n) is h = never h

-- The laws of a format.
module _ {X : Type 0} (reader : List ℕ → Got X) (written : X → List ℕ) (Good : X → Type 0) where
  no_front : Streams reader → (x : X) (bs : List ℕ) (k : ℕ) → alone reader bs ≡ Read x [] → k < length bs → alone reader (take k bs) ≡ Bad 1
  no_front streams x bs k e lt = go (reader bs) refl e
    where
      front : (y : X) → Consumes reader bs y [] → alone reader (take k bs) ≡ Bad 1
      front y c =
          let whole = c.whole ∙ append-nil c.used in
          ap (λ l. and_then (reader (take k l)) ended) whole ∙ ap (λ g. and_then g ended) (c.cut k (omega (arith, ap length whole)))

      go : (g : Got X) → reader bs ≡ g → and_then g ended ≡ Read x [] → alone reader (take k bs) ≡ Bad 1
      go (Read y []) is h = front y (streams bs y [] is)
      go (Read y (b ∷ more)) is h = never h
      go (Bad m) is h = never h

  pub exact : Streams reader → Fine [] written Good reader → ((x : X) (rest : List ℕ) → Good x → reader (written x ++ rest) ≡ Read x rest) → Exact reader written Good
  exact streams fine back =
      record {
        taken = λ x g. ap (λ l. alone reader l) (sym (append-nil (written x))) ∙ ap (λ o. and_then o ended) (back x [] g);
        back = back;
        only = λ x bs rest clean e.
            let spelt = fine.spells bs x rest clean e in
            (fine.yields bs x rest e, spelt.whole ∙ ap (λ l. l ++ rest) spelt.is);
        front = no_front streams;
      }
