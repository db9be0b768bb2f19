-- Whether a packet is among the copies, and whether all copies of one tree are among those of another.
use Rattle.std.proofs.Common.{◌≡◌, ℕ, Bool, true, false, cond, eqb, List, [], ◌∷◌, Decides, sym, refl, ap, ◌∙◌, subst, ⊎_elim}
use mathlib.Core.List.Memᴰ
use mathlib.Core.List.{Memᴰ}
use Rattle.std.proofs.lemmas.Bool.Decides.{Decides-like}
use Rattle.std.proofs.lemmas.Bool.{true≢false}
use Rattle.packet.specs.Packet.{Packet, field}
use Rattle.trees.specs.declared.node.Node.{Node}
use Rattle.trees.specs.declared.node.Node.TheVariants.{Nothing, Test}
use Rattle.trees.specs.Trees.{Tree, copies_by}
use Rattle.trees.specs.Nodes.{tree_of, trees, tree_at}
use Rattle.trees.proofs.Giving.{node_copies}

pub none_copies : (ns : List Node) (t : Tree) (p : Packet) → t ≡ tree_of (trees ns) Nothing → copies_by t p ≡ []
unfolding tree_of copies_by
none_copies ns t p e = ap (λ u. copies_by u p) e

pub next_copies : (ns : List Node) (t : Tree) (f x m u j v : ℕ) (p : Packet) → t ≡ tree_of (trees ns) (Test f x m u) → v ≡ field f p → j ≡ cond (eqb v x) m u →
    copies_by (tree_at ns j) p ≡ copies_by t p
next_copies ns t f x m u j v p e is to =
    ap (λ k. copies_by (tree_at ns k) p) (to ∙ ap (λ y. cond (eqb y x) m u) is) ∙ by (eqb (field f p) x) ∙ sym (node_copies ns t f x m u p e)
  where
    by : (b : Bool) → copies_by (tree_at ns (cond b m u)) p ≡ cond b (copies_by (tree_at ns m) p) (copies_by (tree_at ns u) p)
    by true = refl
    by false = refl

-- a test of something that does not hold
pub refuted : {P : Type 0} → (P → ⊥) → Decides false P
refuted h = (λ e. absurd (true≢false (sym e)), λ p. absurd (h p))

pub granted : {P : Type 0} → P → Decides true P
granted p = (λ _. p, λ _. refl)

nothing_in : {c : Packet} → Memᴰ c [] → ⊥
nothing_in m = elim m [ ]

abbrev Member : Packet → List Packet → Type 0
Member c l = Memᴰ c l

pub mem_none : (c : Packet) (l : List Packet) → l ≡ [] → Decides false (Member c l)
mem_none c l e = subst (λ k. Decides false (Member c k)) (sym e) (refuted nothing_in)

pub mem_here : (r : Bool) (c x : Packet) (l more : List Packet) → r ≡ true → l ≡ x ∷ more → x ≡ c → Decides r (Member c l)
mem_here r c x l more so e same = rw so (subst (λ k. Decides true (Member c k)) (sym e) (granted (Memᴰ.head (sym same))))

pub mem_rest : (r : Bool) (c x : Packet) (l more : List Packet) → l ≡ x ∷ more → (x ≡ c → ⊥) → Decides r (Member c more) → Decides r (Member c l)
mem_rest r c x l more e other d =
    subst (λ k. Decides r (Member c k)) (sym e)
    (Decides-like r (λ m. Memᴰ.tail m) (λ m. ⊎_elim (λ is. absurd (other (sym is))) (λ n. n) (Memᴰ.cases_cons m)) d)

pub mem_like : (r : Bool) (c : Packet) (l k : List Packet) → k ≡ l → Decides r (Member c k) → Decides r (Member c l)
mem_like r c l k e d = subst (λ m. Decides r (Member c m)) e d

abbrev All : List Packet → List Packet → Type 0
All l k = (c : Packet) → Member c l → Member c k

pub all_none : (l k : List Packet) → l ≡ [] → Decides true (All l k)
all_none l k e = subst (λ m. Decides true (All m k)) (sym e) (granted (λ c m. absurd (nothing_in m)))

pub all_miss : (r : Bool) (x : Packet) (l more k : List Packet) → r ≡ false → l ≡ x ∷ more → (Member x k → ⊥) → Decides r (All l k)
all_miss r x l more k so e out = rw so (subst (λ m. Decides false (All m k)) (sym e) (refuted (λ all. out (all x (Memᴰ.head refl)))))

pub all_rest : (r : Bool) (x : Packet) (l more k : List Packet) → l ≡ x ∷ more → Member x k → Decides r (All more k) → Decides r (All l k)
all_rest r x l more k e here d =
    subst (λ m. Decides r (All m k)) (sym e)
    (Decides-like r
    (λ all c m. ⊎_elim (λ is. subst (λ y. Member y k) (sym is) here) (λ n. all c n) (Memᴰ.cases_cons m))
    (λ all c m. all c (Memᴰ.tail m)) d)

pub all_like : (r : Bool) (l m k : List Packet) → m ≡ l → Decides r (All m k) → Decides r (All l k)
all_like r l m k e d = subst (λ n. Decides r (All n k)) e d
