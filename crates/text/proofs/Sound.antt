-- Operands of a sound list of nodes, and one node more.
use Rattle.std.proofs.Common.{◌≡◌, ℕ, zero, suc, ◌<◌, ◌≤◌, Bool, true, false, List, [], ◌∷◌, ◌++◌, length, get_or, take, Option, Some, None, IsSome, sym, refl, ap, ◌∙◌, arith}
use Rattle.std.proofs.lemmas.List.{append-nil, append_assoc}
use Rattle.std.proofs.lemmas.Bool.{and_parts, and_from, true≢false, lt-ltb}
use Rattle.std.proofs.lemmas.Bool.Decides.{when_true}
use Rattle.text.specs.declared.node.Node.{Node}
use Rattle.text.specs.declared.node.Sort.{Sort}
use Rattle.text.specs.declared.texts.Text.{Text}
use Rattle.text.specs.Nodes.{sort_of, same_sort, fitting, fits, sound}
use Rattle.text.specs.Texts.{Added, Finished}

pub fitting_past : (want : Sort) (ns : List Node) (k : ℕ) → length ns ≤ k → false ≡ fitting want ns k
fitting_past want [] k h = refl
fitting_past want (n ∷ ns) zero h = absurd (omega arith)
fitting_past want (n ∷ ns) (suc k) h = fitting_past want ns k (omega arith)

pub fitting_at : (want : Sort) (ns : List Node) (k : ℕ) (d : Node) → k < length ns → same_sort (sort_of (get_or ns k d)) want ≡ fitting want ns k
fitting_at want [] k d h = absurd (omega arith)
fitting_at want (n ∷ ns) zero d h = refl
fitting_at want (n ∷ ns) (suc k) d h = fitting_at want ns k d (omega arith)

-- an operand that fits is there
pub fitting_there : (want : Sort) (ns : List Node) (k : ℕ) → fitting want ns k ≡ true → k < length ns
fitting_there want [] k h = absurd (true≢false (sym h))
fitting_there want (n ∷ ns) zero h = omega arith
fitting_there want (n ∷ ns) (suc k) h = omega (arith, fitting_there want ns k h)

-- nodes before node k are the only ones that it may name
pub fitting_take : (want : Sort) (ns : List Node) (k a : ℕ) → fitting want (take k ns) a ≡ true → (a < k) × (fitting want ns a ≡ true)
fitting_take want [] zero a h = absurd (true≢false (sym h))
fitting_take want [] (suc k) a h = absurd (true≢false (sym h))
fitting_take want (n ∷ ns) zero a h = absurd (true≢false (sym h))
fitting_take want (n ∷ ns) (suc k) zero h = (omega arith, h)
fitting_take want (n ∷ ns) (suc k) (suc a) h = let r = fitting_take want ns k a h in (omega (arith, r.0), r.1)

pub sound_push : (done ns : List Node) (n : Node) → sound done ns ≡ true → fits (done ++ ns) n ≡ true → sound done (ns ++ n ∷ []) ≡ true
unfolding sound
sound_push done [] n s h = and_from _ _ (ap (λ l. fits l n) (sym (append-nil done)) ∙ h) refl
sound_push done (m ∷ ms) n s h =
    let p = and_parts (fits done m) (sound (done ++ m ∷ []) ms) s in
    and_from _ _ p.0 (sound_push (done ++ m ∷ []) ms n p.1 (ap (λ l. fits l n) (append_assoc done (m ∷ []) ms) ∙ h))

-- each node of a sound list fits those before it
pub sound_at : (done ns : List Node) (k : ℕ) (d : Node) → sound done ns ≡ true → k < length ns → fits (done ++ take k ns) (get_or ns k d) ≡ true
unfolding sound
sound_at done [] k d s h = absurd (omega arith)
sound_at done (m ∷ ms) zero d s h = ap (λ l. fits l m) (append-nil done) ∙ (and_parts (fits done m) _ s).0
sound_at done (m ∷ ms) (suc k) d s h =
    ap (λ l. fits l (get_or ms k d)) (sym (append_assoc done (m ∷ []) (take k ms)))
    ∙ sound_at (done ++ m ∷ []) ms k d (and_parts (fits done m) _ s).1 (omega arith)

-- a node that fits is added while there is room
pub added_fitting : (n : Node) (ns ms : List Node) (r : Bool) → Added n ns r ms → length ns < 512 → fits ns n ≡ true → ms ≡ ns ++ n ∷ []
added_fitting n ns ms r h room fit = when_true _ _ (h.0 ∙ and_from _ _ (lt-ltb _ _ room) fit) h.1

-- a draft with a node is a text
pub is_finished : (ns : List Node) (r : Option Text) → Finished ns r → 1 ≤ length ns → IsSome r
is_finished ns (Some t) h some = search
is_finished ns None h some = absurd (omega (arith, ap length h))
