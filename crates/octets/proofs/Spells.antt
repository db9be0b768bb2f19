-- Which bytes a reader has read, given what it read, and how that follows from its parts.
use Rattle.std.proofs.Common.{◌≡◌, ℕ, ◌+◌, ◌*◌, ◌/◌, ◌%◌, ◌<◌, Bool, true, false, cond, List, [], ◌∷◌, ◌++◌, sym, refl, ap, ◌∙◌, subst, arith}
use Rattle.std.proofs.lemmas.List.{append_assoc}
use Rattle.octets.specs.Parse.{Got, Read, Bad, and_then, check, byte, word, Bytes, word_bytes}
use Rattle.octets.proofs.Streams.{never}

-- the bytes `used` in front of the rest are what W says of x
pub record Spelt {X : Type 0} (W : X → List ℕ → Type 0) (bs : List ℕ) (x : X) (rest : List ℕ) : Type 0 where
  pub used : List ℕ
  pub whole : bs ≡ used ++ rest
  pub is : W x used
  pub clean : Bytes rest

abbrev pub Spells : {X : Type 0} → (List ℕ → Got X) → (X → List ℕ → Type 0) → Type 0
Spells {X} reader W = (bs : List ℕ) (x : X) (rest : List ℕ) → Bytes bs → reader bs ≡ Read x rest → Spelt W bs x rest

pub spells_read : {X : Type 0} (W : X → List ℕ → Type 0) (x : X) → W x [] → Spells (λ bs. Read x bs) W
spells_read W x w bs y rest b e =
    let same : x ≡ y = cc in
    let left : bs ≡ rest = cc in
    record { used = []; whole = left; is = subst (λ z. W z []) same w; clean = subst Bytes left b }

pub spells_bad : {X : Type 0} (W : X → List ℕ → Type 0) (n : ℕ) → Spells {X = X} (λ bs. Bad n) W
spells_bad W n bs y rest b e = never e

pub spells_check : {X : Type 0} (W : X → List ℕ → Type 0) (t : Bool) (n : ℕ) (x : X) → W x [] → Spells (λ bs. check t n x bs) W
spells_check W true n x w = spells_read W x w
spells_check W false n x w = spells_bad W n

pub spells_cond : {X : Type 0} (W : X → List ℕ → Type 0) (t : Bool) (p q : List ℕ → Got X) → (t ≡ true → Spells p W) → Spells q W → Spells (λ bs. cond t (p bs) (q bs)) W
spells_cond W true p q hp hq = hp refl
spells_cond W false p q hp hq = hq

pub spells_byte : Spells byte (λ x used. used ≡ x ∷ [])
spells_byte [] x rest b e = never e
spells_byte (a ∷ bs) x rest b e =
    let same : a ≡ x = cc in
    let left : bs ≡ rest = cc in
    record { used = a ∷ []; whole = ap (λ l. a ∷ l) left; is = ap (λ z. z ∷ []) same; clean = subst Bytes left b.1 }

pub spells_word : Spells word (λ x used. used ≡ word_bytes x)
spells_word [] x rest b e = never e
spells_word (h ∷ []) x rest b e = never e
spells_word (h ∷ (l ∷ bs)) x rest b e =
    let same : h * 256 + l ≡ x = cc in
    let left : bs ≡ rest = cc in
    let small : l < 256 = b.1.0 in
    let high : h ≡ x / 256 = omega arith in
    let low : l ≡ x % 256 = omega arith in
    record { used = h ∷ (l ∷ []); whole = ap (λ m. h ∷ (l ∷ m)) left; is = λ i. high i ∷ (low i ∷ []); clean = subst Bytes left b.1.1 }

pub spells_then : {X Y : Type 0} (V : X → List ℕ → Type 0) (W : X → Y → List ℕ → Type 0) (U : Y → List ℕ → Type 0) (p : List ℕ → Got X) (f : X → List ℕ → Got Y) →
    ((x : X) (y : Y) (u w : List ℕ) → V x u → W x y w → U y (u ++ w)) → Spells p V → ((x : X) → Spells (f x) (W x)) → Spells (λ bs. and_then (p bs) f) U
spells_then {X} {Y} V W U p f both hp hf bs y rest b e = go (p bs) refl e
  where
    joined : (x : X) (mid : List ℕ) → Spelt V bs x mid → (Bytes mid → Spelt (W x) mid y rest) → Spelt U bs y rest
    joined x mid a more =
        let c = more a.clean in
        record {
          used = a.used ++ c.used;
          whole = a.whole ∙ ap (λ l. a.used ++ l) c.whole ∙ sym (append_assoc a.used c.used rest);
          is = both x y a.used c.used a.is c.is;
          clean = c.clean;
        }

    go : (g : Got X) → p bs ≡ g → and_then g f ≡ Read y rest → Spelt U bs y rest
    go (Read x mid) is h = joined x mid (hp bs x mid b is) (λ c. hf x mid y rest c h)
    go (Bad n) is h = never h
