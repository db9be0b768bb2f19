-- Lists of packets as sets: one packet more, two exchanged, one twice, each mapped.
use Rattle.std.proofs.Common.{◌≡◌, Bool, true, false, cond, List, [], ◌∷◌, map, IfOk, Ok, Err, Result, sym, refl, ap, subst, ⊎_elim}
use mathlib.Core.List.Memᴰ
use mathlib.Core.List.{Memᴰ}
use Rattle.packet.specs.Packet.{Packet, SameSet}

pub set_all : (ps : List Packet) → SameSet ps ps
set_all ps p = (λ m. m, λ m. m)

pub set_is : {ps qs : List Packet} → ps ≡ qs → SameSet ps qs
set_is {ps} e = subst (SameSet ps) e (set_all ps)

pub set_back : {ps qs : List Packet} → SameSet ps qs → SameSet qs ps
set_back e p = ((e p).1, (e p).0)

pub set_then : {ps qs rs : List Packet} → SameSet ps qs → SameSet qs rs → SameSet ps rs
set_then e f p = (λ m. (f p).0 ((e p).0 m), λ m. (e p).1 ((f p).1 m))

more : (x p : Packet) (ps qs : List Packet) → (Memᴰ p ps → Memᴰ p qs) → Memᴰ p (x ∷ ps) → Memᴰ p (x ∷ qs)
more x p ps qs h m = ⊎_elim (λ e. Memᴰ.head e) (λ n. Memᴰ.tail (h n)) (Memᴰ.cases_cons m)

pub set_more : (x : Packet) {ps qs : List Packet} → SameSet ps qs → SameSet (x ∷ ps) (x ∷ qs)
set_more x {ps} {qs} e p = (more x p ps qs (e p).0, more x p qs ps (e p).1)

swap : (x y p : Packet) (ps : List Packet) → Memᴰ p (x ∷ (y ∷ ps)) → Memᴰ p (y ∷ (x ∷ ps))
swap x y p ps m =
    ⊎_elim
    (λ e. Memᴰ.tail (Memᴰ.head e))
    (λ n. ⊎_elim (λ e. Memᴰ.head e) (λ k. Memᴰ.tail (Memᴰ.tail k)) (Memᴰ.cases_cons n))
    (Memᴰ.cases_cons m)

pub set_swap : (x y : Packet) (ps : List Packet) → SameSet (x ∷ (y ∷ ps)) (y ∷ (x ∷ ps))
set_swap x y ps p = (swap x y p ps, swap y x p ps)

pub set_twice : (x : Packet) (ps : List Packet) → SameSet (x ∷ ps) (x ∷ (x ∷ ps))
set_twice x ps p = (λ m. Memᴰ.tail m, λ m. ⊎_elim (λ e. Memᴰ.head e) (λ n. n) (Memᴰ.cases_cons m))

-- the same function of each
mem_map : (f : Packet → Packet) (p : Packet) (ps : List Packet) → Memᴰ p ps → Memᴰ (f p) (map f ps)
mem_map f p [] m = elim m [ ]
mem_map f p (q ∷ ps) m = ⊎_elim (λ e. Memᴰ.head (ap f e)) (λ n. Memᴰ.tail (mem_map f p ps n)) (Memᴰ.cases_cons m)

map_mem : (f : Packet → Packet) (q : Packet) (ps : List Packet) → Memᴰ q (map f ps) → (p : Packet) × Memᴰ p ps × (q ≡ f p)
map_mem f q [] m = elim m [ ]
map_mem f q (p ∷ ps) m =
    ⊎_elim (λ e. (p, Memᴰ.head refl, e)) (λ n. let r = map_mem f q ps n in (r.0, Memᴰ.tail r.1, r.2)) (Memᴰ.cases_cons m)

mapped : (f : Packet → Packet) (q : Packet) (ps qs : List Packet) → ((p : Packet) → Memᴰ p ps → Memᴰ p qs) → Memᴰ q (map f ps) → Memᴰ q (map f qs)
mapped f q ps qs h m = let r = map_mem f q ps m in subst (λ x. Memᴰ x (map f qs)) (sym r.2) (mem_map f r.0 qs (h r.0 r.1))

pub set_map : (f : Packet → Packet) {ps qs : List Packet} → SameSet ps qs → SameSet (map f ps) (map f qs)
set_map f {ps} {qs} e q = (mapped f q ps qs (λ p. (e p).0), mapped f q qs ps (λ p. (e p).1))

-- by the outcome of a test
pub set_by : (b : Bool) {ps qs rs ss : List Packet} → (b ≡ true → SameSet ps rs) → (b ≡ false → SameSet qs ss) → SameSet (cond b ps qs) (cond b rs ss)
set_by true h g = h refl
set_by false h g = g refl

-- what holds of a value that was made
pub made_so : {X Y : Type 0} {P Q : X → Type 0} (r : Result X Y) → ((x : X) → P x → Q x) → IfOk r P → IfOk r Q
made_so (Ok x) h m = h x m
made_so (Err y) h m = tt
