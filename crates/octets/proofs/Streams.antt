-- Readers that look at no byte behind what they read, and how they are put together.
use Rattle.std.proofs.Common.{◌≡◌, ℕ, zero, suc, ◌+◌, ◌-◌, ◌*◌, ◌<◌, ◌≤◌, Bool, true, false, cond, List, [], ◌∷◌, ◌++◌, length, take, sym, refl, ap, ◌∙◌, ⊎_elim, arith, length-append}
use Rattle.std.proofs.lemmas.List.{append_assoc, take-append-le}
use Rattle.std.proofs.lemmas.Bool.{cases_lt}
use Rattle.octets.specs.Parse.{Got, Read, Bad, and_then, check, byte, word}
use Rattle.octets.specs.Streams.{Consumes, Streams}

pub never : {X : Type 0} {n : ℕ} {x : X} {bs : List ℕ} {A : Type 0} → Bad n ≡ Read x bs → A
never {X} {n} {x} {bs} e = let z : ◌≡◌ {A = ℕ} 0 1 = cc in absurd (omega arith)

pub streams_read : {X : Type 0} (x : X) → Streams (λ bs. Read x bs)
streams_read x bs y rest e =
    let same : x ≡ y = cc in
    let left : bs ≡ rest = cc in
    record { used = []; whole = left; again = λ other. ap (λ z. Read z other) same; cut = λ k lt. absurd (omega arith) }

pub streams_bad : {X : Type 0} (n : ℕ) → Streams {X = X} (λ bs. Bad n)
streams_bad n bs x rest e = never e

pub streams_byte : Streams byte
streams_byte [] x rest e = never e
streams_byte (b ∷ bs) x rest e =
    let same : b ≡ x = cc in
    let left : bs ≡ rest = cc in
    record { used = b ∷ []; whole = ap (λ l. b ∷ l) left; again = λ other. ap (λ z. Read z other) same; cut = first }
  where
    first : (k : ℕ) → k < length (b ∷ []) → byte (take k (b ∷ [])) ≡ Bad 1
    first zero lt = refl
    first (suc k) lt = absurd (omega arith)

pub streams_cond : {X : Type 0} (t : Bool) (p q : List ℕ → Got X) → Streams p → Streams q → Streams (λ bs. cond t (p bs) (q bs))
streams_cond true p q sp sq = sp
streams_cond false p q sp sq = sq

pub streams_check : {X : Type 0} (t : Bool) (n : ℕ) (x : X) → Streams (λ bs. check t n x bs)
streams_check true n x = streams_read x
streams_check false n x = streams_bad n

-- a front of two parts ends in the first, or is the first with a front of the second
take_parts : (k : ℕ) (u w : List ℕ) → length u ≤ k → take k (u ++ w) ≡ u ++ take (k - length u) w
take_parts k [] w le = let e : k ≡ k - 0 = omega arith in ap (λ n. take n w) e
take_parts zero (b ∷ u) w le = absurd (omega arith)
take_parts (suc k) (b ∷ u) w le =
    let e : k - length u ≡ suc k - suc (length u) = omega arith in
    ap (λ l. b ∷ l) (take_parts k u w (omega arith)) ∙ ap (λ n. (b ∷ u) ++ take n w) e

pub streams_then : {X Y : Type 0} (p : List ℕ → Got X) (f : X → List ℕ → Got Y) → Streams p → ((x : X) → Streams (f x)) → Streams (λ bs. and_then (p bs) f)
streams_then {X} {Y} p f sp sf bs y rest e = go (p bs) refl e
  where
    joined : (x : X) (mid : List ℕ) → Consumes p bs x mid → Consumes (f x) mid y rest → Consumes (λ l. and_then (p l) f) bs y rest
    joined x mid a b =
        record {
          used = a.used ++ b.used;
          whole = a.whole ∙ ap (λ l. a.used ++ l) b.whole ∙ sym (append_assoc a.used b.used rest);
          again = λ other.
              ap (λ l. and_then (p l) f) (append_assoc a.used b.used other)
              ∙ ap (λ g. and_then g f) (a.again (b.used ++ other)) ∙ b.again other;
          cut = λ k lt. ⊎_elim
              (λ short. ap (λ l. and_then (p l) f) (take-append-le k a.used b.used (omega arith)) ∙ ap (λ g. and_then g f) (a.cut k short))
              (λ long.
              ap (λ l. and_then (p l) f) (take_parts k a.used b.used long) ∙ ap (λ g. and_then g f) (a.again _)
              ∙ b.cut (k - length a.used) (omega (arith, length-append a.used b.used)))
              (cases_lt k (length a.used));
        }

    go : (g : Got X) → p bs ≡ g → and_then g f ≡ Read y rest → Consumes (λ l. and_then (p l) f) bs y rest
    go (Read x mid) is h = joined x mid (sp bs x mid is) (sf x mid y rest h)
    go (Bad n) is h = never h

pub streams_word : Streams word
streams_word [] x rest e = never e
streams_word (a ∷ []) x rest e = never e
streams_word (a ∷ (b ∷ bs)) x rest e =
    let same : a * 256 + b ≡ x = cc in
    let left : bs ≡ rest = cc in
    record { used = a ∷ (b ∷ []); whole = ap (λ l. a ∷ (b ∷ l)) left; again = λ other. ap (λ z. Read z other) same; cut = first }
  where
    first : (k : ℕ) → k < length (a ∷ (b ∷ [])) → word (take k (a ∷ (b ∷ []))) ≡ Bad 1
    first zero lt = refl
    first (suc zero) lt = refl
    first (suc (suc k)) lt = absurd (omega arith)
