-- What holds of every value that a reader gives, and how that follows from its parts.
use Rattle.std.proofs.Common.{◌≡◌, ℕ, Bool, true, false, cond, List, refl, subst}
use Rattle.octets.specs.Parse.{Got, Read, Bad, and_then, check}
use Rattle.octets.proofs.Streams.{never}

abbrev pub Yields : {X : Type 0} → (List ℕ → Got X) → (X → Type 0) → Type 0
Yields {X} reader P = (bs : List ℕ) (x : X) (rest : List ℕ) → reader bs ≡ Read x rest → P x

pub yields_read : {X : Type 0} (P : X → Type 0) (x : X) → P x → Yields (λ bs. Read x bs) P
yields_read P x h bs y rest e = let same : x ≡ y = cc in subst P same h

pub yields_bad : {X : Type 0} (P : X → Type 0) (n : ℕ) → Yields {X = X} (λ bs. Bad n) P
yields_bad P n bs y rest e = never e

pub yields_check : {X : Type 0} (P : X → Type 0) (t : Bool) (n : ℕ) (x : X) → (t ≡ true → P x) → Yields (λ bs. check t n x bs) P
yields_check P true n x h = yields_read P x (h refl)
yields_check P false n x h = yields_bad P n

pub yields_cond : {X : Type 0} (P : X → Type 0) (t : Bool) (p q : List ℕ → Got X) → Yields p P → Yields q P → Yields (λ bs. cond t (p bs) (q bs)) P
yields_cond P true p q hp hq = hp
yields_cond P false p q hp hq = hq

pub yields_then : {X Y : Type 0} (P : X → Type 0) (Q : Y → Type 0) (p : List ℕ → Got X) (f : X → List ℕ → Got Y) →
    Yields p P → ((x : X) → P x → Yields (f x) Q) → Yields (λ bs. and_then (p bs) f) Q
yields_then {X} {Y} P Q p f hp hf bs y rest e = go (p bs) refl e
  where
    go : (g : Got X) → p bs ≡ g → and_then g f ≡ Read y rest → Q y
    go (Read x mid) is h = hf x (hp bs x mid is) mid y rest h
    go (Bad n) is h = never h

pub yields_any : {X : Type 0} (p : List ℕ → Got X) → Yields p (λ x. Unit {0})
yields_any p bs x rest e = tt
