-- Lists of packets as sets: what `once` keeps, where lists are joined and where each packet is mapped.
use Rattle.std.proofs.Common.{◌≡◌, ◌≤◌, Bool, true, false, cond, ◌||◌, List, [], ◌∷◌, ◌++◌, length, sym, refl, ap, ◌∙◌, ⊎_elim, arith}
use Rattle.std.proofs.lemmas.Slice.Eq.{bytes_eq-Decides}
use Rattle.std.proofs.lemmas.Bool.Decides.{same_from_decides, Decides-like}
use Rattle.std.proofs.lemmas.Bool.{cases_Bool, cond-true, cond-false, or_right, or_left}
use Rattle.std.proofs.lemmas.List.{append-nil, append_assoc, length-append}
use Rattle.packet.specs.Packet.{Packet, same_packet, others, once, is_in}
use Rattle.packet.specs.Policy.{each, some}

same_is : (p q : Packet) → same_packet p q ≡ true → p ≡ q
same_is p q h = (bytes_eq-Decides p q).0 h

pub same_sym : (p q : Packet) → same_packet p q ≡ same_packet q p
same_sym p q = same_from_decides _ _ (bytes_eq-Decides p q) (Decides-like _ sym sym (bytes_eq-Decides q p))

same_itself : (p : Packet) → same_packet p p ≡ true
same_itself p = (bytes_eq-Decides p p).1 refl

-- one packet left out
others_hit : (p q : Packet) (qs : List Packet) → same_packet p q ≡ true → others p (q ∷ qs) ≡ others p qs
unfolding others
others_hit p q qs h = cond-true _ _ _ h

others_miss : (p q : Packet) (qs : List Packet) → same_packet p q ≡ false → others p (q ∷ qs) ≡ q ∷ others p qs
unfolding others
others_miss p q qs h = cond-false _ _ _ h

others_append : (p : Packet) (xs ys : List Packet) → others p (xs ++ ys) ≡ others p xs ++ others p ys
unfolding others
others_append p [] ys = refl
others_append p (x ∷ xs) ys =
    elim (same_packet p x) as (λ b. cond b (others p (xs ++ ys)) (x ∷ others p (xs ++ ys)) ≡ cond b (others p xs) (x ∷ others p xs) ++ others p ys) [
      | true ↦ others_append p xs ys
      | false ↦ ap (λ l. x ∷ l) (others_append p xs ys)
    ]

others_twice : (p : Packet) (xs : List Packet) → others p (others p xs) ≡ others p xs
unfolding others
others_twice p [] = refl
others_twice p (x ∷ xs) =
    ⊎_elim
    (λ h. ap (others p) (others_hit p x xs h) ∙ others_twice p xs ∙ sym (others_hit p x xs h))
    (λ h. ap (others p) (others_miss p x xs h) ∙ others_miss p x (others p xs) h ∙ ap (λ l. x ∷ l) (others_twice p xs) ∙ sym (others_miss p x xs h))
    (cases_Bool (same_packet p x))

others_swap : (p q : Packet) (xs : List Packet) → others p (others q xs) ≡ others q (others p xs)
unfolding others
others_swap p q [] = refl
others_swap p q (x ∷ xs) =
    ⊎_elim
    (λ h.
    ap (others p) (others_hit q x xs h)
    ∙ ⊎_elim
    (λ g. others_swap p q xs ∙ ap (others q) (sym (others_hit p x xs g)))
    (λ g. others_swap p q xs ∙ sym (others_hit q x (others p xs) h) ∙ ap (others q) (sym (others_miss p x xs g)))
    (cases_Bool (same_packet p x)))
    (λ h.
    ap (others p) (others_miss q x xs h)
    ∙ ⊎_elim
    (λ g. others_hit p x (others q xs) g ∙ others_swap p q xs ∙ ap (others q) (sym (others_hit p x xs g)))
    (λ g. others_miss p x (others q xs) g ∙ ap (λ l. x ∷ l) (others_swap p q xs) ∙ sym (others_miss q x (others p xs) h) ∙ ap (others q) (sym (others_miss p x xs g)))
    (cases_Bool (same_packet p x)))
    (cases_Bool (same_packet q x))

others_once : (p : Packet) (xs : List Packet) → others p (once xs) ≡ once (others p xs)
unfolding others once
others_once p [] = refl
others_once p (x ∷ xs) =
    ⊎_elim
    (λ h.
    others_hit p x (others x (once xs)) h ∙ ap (λ y. others p (others y (once xs))) (sym (same_is p x h)) ∙ others_twice p (once xs) ∙ others_once p xs
    ∙ ap once (sym (others_hit p x xs h)))
    (λ h.
    others_miss p x (others x (once xs)) h ∙ ap (λ l. x ∷ l) (others_swap p x (once xs) ∙ ap (others x) (others_once p xs))
    ∙ ap once (sym (others_miss p x xs h)))
    (cases_Bool (same_packet p x))

-- the packets of one list left out of another
unfoldable pub without : List Packet → List Packet → List Packet
without [] ys = ys
without (x ∷ xs) ys = others x (without xs ys)

without_append : (zs xs ys : List Packet) → without zs (xs ++ ys) ≡ without zs xs ++ without zs ys
unfolding without
without_append [] xs ys = refl
without_append (z ∷ zs) xs ys = ap (others z) (without_append zs xs ys) ∙ others_append z (without zs xs) (without zs ys)

without_once : (zs xs : List Packet) → without zs (once xs) ≡ once (without zs xs)
unfolding without
without_once [] xs = refl
without_once (z ∷ zs) xs = ap (others z) (without_once zs xs) ∙ others_once z (without zs xs)

-- a list joined to another adds what is not there yet
pub once_append : (xs ys : List Packet) → once (xs ++ ys) ≡ once xs ++ without xs (once ys)
unfolding once without
once_append [] ys = refl
once_append (x ∷ xs) ys = ap (λ l. x ∷ others x l) (once_append xs ys) ∙ ap (λ l. x ∷ l) (others_append x (once xs) (without xs (once ys)))

pub once_grows : (xs ys : List Packet) → length (once xs) ≤ length (once (xs ++ ys))
once_grows xs ys = omega (arith, ap length (once_append xs ys), length-append (once xs) (without xs (once ys)))

pub once_once : (xs ys : List Packet) → once (once xs ++ ys) ≡ once (xs ++ ys)
unfolding once
once_once [] ys = refl
once_once (x ∷ xs) ys =
    ap (λ l. x ∷ l)
    (others_once x (others x (once xs) ++ ys) ∙ ap once (others_append x (others x (once xs)) ys ∙ ap (λ l. l ++ others x ys) (others_twice x (once xs)) ∙ sym (others_append x (once xs) ys)) ∙ sym (others_once x (once xs ++ ys)) ∙ ap (others x) (once_once xs ys))

pub once_twice : (xs : List Packet) → once (once xs) ≡ once xs
once_twice xs = ap once (sym (append-nil (once xs))) ∙ once_once xs [] ∙ ap once (append-nil xs)

pub once_behind : (xs ys : List Packet) → once (xs ++ once ys) ≡ once (xs ++ ys)
unfolding once
once_behind [] ys = once_twice ys
once_behind (x ∷ xs) ys = ap (λ l. x ∷ others x l) (once_behind xs ys)

pub once_both : (xs ys : List Packet) → once (once xs ++ once ys) ≡ once (xs ++ ys)
once_both xs ys = once_once xs (once ys) ∙ once_behind xs ys

-- one packet more
pub once_one : (p : Packet) → once (p ∷ []) ≡ p ∷ []
unfolding once others
once_one p = refl

without_one : (xs : List Packet) (p : Packet) → without xs (p ∷ []) ≡ cond (is_in p xs) [] (p ∷ [])
unfolding without is_in others
without_one [] p = refl
without_one (x ∷ xs) p =
    ap (others x) (without_one xs p)
    ∙ elim (is_in p xs) as (λ b. others x (cond b [] (p ∷ [])) ≡ cond (same_packet p x || b) [] (p ∷ [])) [
      | true ↦ sym (cond-true _ _ _ (or_right (same_packet p x) true refl))
      | false ↦ ap (λ b. cond b [] (p ∷ [])) (same_sym x p) ∙ elim (same_packet p x) as (λ b. cond b [] (p ∷ []) ≡ cond (b || false) [] (p ∷ [])) [ true ↦ refl | false ↦ refl ]
    ]

once_push : (xs : List Packet) (p : Packet) → once (xs ++ p ∷ []) ≡ once xs ++ cond (is_in p xs) [] (p ∷ [])
once_push xs p = once_append xs (p ∷ []) ∙ ap (λ l. once xs ++ l) (ap (without xs) (once_one p) ∙ without_one xs p)

pub once_old : (xs : List Packet) (p : Packet) → is_in p xs ≡ true → once (xs ++ p ∷ []) ≡ once xs
once_old xs p h = once_push xs p ∙ ap (λ l. once xs ++ l) (cond-true _ _ _ h) ∙ append-nil (once xs)

pub once_new : (xs : List Packet) (p : Packet) → is_in p xs ≡ false → once (xs ++ p ∷ []) ≡ once xs ++ p ∷ []
once_new xs p h = once_push xs p ∙ ap (λ l. once xs ++ l) (cond-false _ _ _ h)

-- a test that some packet passes
pub some_append : (f : Packet → Bool) (xs ys : List Packet) → some f (xs ++ ys) ≡ (some f xs || some f ys)
unfolding some
some_append f [] ys = refl
some_append f (x ∷ xs) ys = elim (f x) as (λ b. (b || some f (xs ++ ys)) ≡ ((b || some f xs) || some f ys)) [ true ↦ refl | false ↦ some_append f xs ys ]

some_others : (f : Packet → Bool) (p : Packet) (xs : List Packet) → f p ≡ false → some f (others p xs) ≡ some f xs
unfolding some others
some_others f p [] e = refl
some_others f p (x ∷ xs) e =
    ⊎_elim
    (λ h. ap (some f) (others_hit p x xs h) ∙ some_others f p xs e ∙ ap (λ b. b || some f xs) (sym (ap f (sym (same_is p x h)) ∙ e)))
    (λ h. ap (some f) (others_miss p x xs h) ∙ ap (λ b. f x || b) (some_others f p xs e))
    (cases_Bool (same_packet p x))

pub some_once : (f : Packet → Bool) (xs : List Packet) → some f (once xs) ≡ some f xs
unfolding some once
some_once f [] = refl
some_once f (x ∷ xs) =
    ⊎_elim
    (λ h. or_left (f x) _ h ∙ sym (or_left (f x) _ h))
    (λ h. ap (λ b. f x || b) (some_others f x (once xs) h ∙ some_once f xs))
    (cases_Bool (f x))

-- what each packet gives
pub each_append : (f : Packet → List Packet) (xs ys : List Packet) → each f (xs ++ ys) ≡ each f xs ++ each f ys
unfolding each
each_append f [] ys = refl
each_append f (x ∷ xs) ys = ap (λ l. f x ++ l) (each_append f xs ys) ∙ sym (append_assoc (f x) (each f xs) (each f ys))

pub each_one : (f : Packet → List Packet) (p : Packet) → each f (p ∷ []) ≡ f p
unfolding each
each_one f p = append-nil (f p)

without_itself : (xs : List Packet) → without xs xs ≡ []
unfolding without others
without_itself [] = refl
without_itself (x ∷ xs) =
    ap (others x) (without_append xs (x ∷ []) xs ∙ ap (λ l. without xs (x ∷ []) ++ l) (without_itself xs) ∙ append-nil (without xs (x ∷ [])) ∙ without_one xs x)
    ∙ elim (is_in x xs) as (λ b. others x (cond b [] (x ∷ [])) ≡ []) [ true ↦ refl | false ↦ others_hit x x [] (same_itself x) ]

-- what p gives again adds nothing to what it gave
each_others : (f : Packet → List Packet) (p : Packet) (xs : List Packet) → without (f p) (each f (others p xs)) ≡ without (f p) (each f xs)
unfolding each others
each_others f p [] = refl
each_others f p (x ∷ xs) =
    ⊎_elim
    (λ h.
    ap (λ l. without (f p) (each f l)) (others_hit p x xs h) ∙ each_others f p xs
    ∙ sym (without_append (f p) (f x) (each f xs) ∙ ap (λ l. l ++ without (f p) (each f xs)) (ap (λ y. without (f p) (f y)) (sym (same_is p x h)) ∙ without_itself (f p))))
    (λ h.
    ap (λ l. without (f p) (each f l)) (others_miss p x xs h) ∙ without_append (f p) (f x) (each f (others p xs))
    ∙ ap (λ l. without (f p) (f x) ++ l) (each_others f p xs) ∙ sym (without_append (f p) (f x) (each f xs)))
    (cases_Bool (same_packet p x))

pub each_once : (f : Packet → List Packet) (xs : List Packet) → once (each f (once xs)) ≡ once (each f xs)
unfolding each once
each_once f [] = refl
each_once f (x ∷ xs) =
    let rest = each f (others x (once xs)) in
    let all = each f (once xs) in
    once_append (f x) rest ∙ ap (λ l. once (f x) ++ l) (without_once (f x) rest ∙ ap once (each_others f x (once xs)) ∙ sym (without_once (f x) all))
    ∙ sym (once_append (f x) all) ∙ sym (once_behind (f x) all) ∙ ap (λ l. once (f x ++ l)) (each_once f xs) ∙ once_behind (f x) (each f xs)
