-- Which versions are held, and in which places.
use Rattle.std.proofs.Common.{◌≡◌, ℕ, ◌<◌, ◌≤◌, Bool, true, false, cond, not, ◌&&◌, ◌||◌, eqb, leb, IfSome, MatchOption, List, [], ◌∷◌, ◌++◌, length, Some, None, Option, is_some, sym, refl, ap, ◌∙◌, subst, arith}
use Rattle.std.specs.List.{find}
use Rattle.std.specs.Option.{option_map}
use Rattle.packet.specs.Table.{Table}
use Rattle.run.specs.At.{at}
use Rattle.run.specs.Switch as run
use Rattle.run.specs.Switch.{knows, table_of, install, with_held}
use Rattle.switch.specs.declared.Switch.{Switch}
use Rattle.switch.specs.declared.versions.Versions.{Versions}
use Rattle.switch.specs.declared.versions.Held.{Held}
use Rattle.switch.specs.Holding.{Places, all_of, placed, used, slots}
use Rattle.switch.specs.Marking.{latest_of}
use Rattle.switch.specs.Model.{Added, Lies, held_of, one, switch_of}

abbrev pub found : ℕ → List Held → Option Held
found v xs = find (λ (x : Held). eqb x.version v) xs

abbrev pub place_in : Option Held → Option ℕ
place_in o = option_map (λ (x : Held). x.place) o

-- a version of another number in front
past : (v : ℕ) (x : Held) (xs : List Held) (tables : Places) (o : Option Held) → eqb v x.version ≡ false → Lies v (all_of tables xs) tables (place_in o) → Lies v (all_of tables (x ∷ xs)) tables (place_in o)
unfolding knows table_of
past v x xs tables None e h = ap (λ b. b || knows v (all_of tables xs)) e ∙ h
past v x xs tables (Some y) e h = (ap (λ b. b || knows v (all_of tables xs)) e ∙ h.0, ap (λ b. cond b (tables x.place) (table_of v (all_of tables xs))) e ∙ h.1)

first : (v : ℕ) (x : Held) (xs : List Held) (tables : Places) (b : Bool) → eqb x.version v ≡ b → Lies v (all_of tables xs) tables (place_in (found v xs)) → Lies v (all_of tables (x ∷ xs)) tables (place_in (cond b (Some x) (found v xs)))
unfolding knows table_of
first v x xs tables true e h = let q : eqb v x.version ≡ true = grind arith in (ap (λ b. b || knows v (all_of tables xs)) q, ap (λ b. cond b (tables x.place) (table_of v (all_of tables xs))) q)
first v x xs tables false e h = let q : eqb v x.version ≡ false = grind arith in past v x xs tables (found v xs) q h

lies_in : (v : ℕ) (xs : List Held) (tables : Places) → Lies v (all_of tables xs) tables (place_in (found v xs))
unfolding knows
lies_in v [] tables = refl
lies_in v (x ∷ xs) tables = first v x xs tables (eqb x.version v) refl (lies_in v xs tables)

-- o is the place of what was found
pub lies_found : (v : ℕ) (xs : List Held) (o : Option ℕ) → o ≡ place_in (found v xs) → (tables : Places) → Lies v (all_of tables xs) tables o
lies_found v xs o e tables = subst (Lies v (all_of tables xs) tables) (sym e) (lies_in v xs tables)

-- a version is there where it has a place
known_by_place : (v : ℕ) (xs : List Held) (tables : Places) (o : Option Held) → Lies v (all_of tables xs) tables (place_in o) → is_some o ≡ knows v (all_of tables xs)
known_by_place v xs tables None h = sym h
known_by_place v xs tables (Some p) h = sym h.0

pub known_found : (v : ℕ) (xs : List Held) (tables : Places) → is_some (found v xs) ≡ knows v (all_of tables xs)
known_found v xs tables = known_by_place v xs tables (found v xs) (lies_in v xs tables)

-- each place is there
here : (x : Held) (b : Bool) (o : Option Held) → x.place < slots → IfSome (place_in o) (λ p. p < slots) → IfSome (place_in (cond b (Some x) o)) (λ p. p < slots)
here x true o h more = h
here x false o h more = more

placed_in : (v : ℕ) (xs : List Held) → placed xs ≡ true → IfSome (place_in (found v xs)) (λ p. p < slots)
placed_in v [] h = tt
placed_in v (x ∷ xs) h =
    let first : x.place < slots = grind (arith, h) in
    let rest : placed xs ≡ true = grind (arith, h) in
    here x (eqb x.version v) (found v xs) first (placed_in v xs rest)

pub placed_found : (v : ℕ) (xs : List Held) (o : Option ℕ) → o ≡ place_in (found v xs) → placed xs ≡ true → IfSome o (λ p. p < slots)
placed_found v xs o e h = subst (λ p. IfSome p (λ q. q < slots)) (sym e) (placed_in v xs h)

-- where the two places are used there are two versions
two_used : (xs : List Held) → used 0 xs ≡ true → used 1 xs ≡ true → slots ≤ length xs
two_used [] a b = grind (arith, a)
two_used (x ∷ []) a b = grind (arith, a, b)
two_used (x ∷ y ∷ xs) a b = omega arith

-- the first place that is not used
pub free_found : (xs : List Held) (r : Option ℕ) → r ≡ find (λ p. not (used p xs)) (0 ∷ 1 ∷ []) → MatchOption r (slots ≤ length xs) (λ p. (p < slots) × (used p xs ≡ false))
free_found xs r e = subst (λ o. MatchOption o (slots ≤ length xs) (λ p. (p < slots) × (used p xs ≡ false))) (sym e) (by (used 0 xs) (used 1 xs) refl refl)
  where
    by : (a b : Bool) → used 0 xs ≡ a → used 1 xs ≡ b → MatchOption (cond (not a) (Some 0) (cond (not b) (Some 1) None)) (slots ≤ length xs) (λ p. (p < slots) × (used p xs ≡ false))
    by false b e f = (omega arith, e)
    by true false e f = (omega arith, f)
    by true true e f = two_used xs e f

-- one version more, in a free place
pub taken_in : (v : ℕ) (s : Switch) (r : Versions) (p : ℕ) → s.floor ≤ v → ((tables : Places) → knows v (held_of tables s.versions) ≡ false) → Added v s.versions r p →
    (tables : Places) (t : Table) → switch_of (at p t tables) (record { stamp = s.stamp; floor = s.floor; versions = r; marks = s.marks }) ≡ install v t (switch_of tables s)
taken_in v s r p low new more tables t =
    let x = switch_of tables s in
    let y : run.Switch = with_held (x.held ++ (one v t ∷ [])) x in
    let above : leb s.floor v ≡ true = grind arith in
    let test : (leb s.floor v && not (knows v x.held)) ≡ true = ap (λ b. b && not (knows v x.held)) above ∙ ap not (new tables) in
    (λ k. record { held = more.after tables t k; stamp = s.stamp; floor = s.floor; latest = latest_of s.marks }) ∙ sym (ap (λ b. cond b y x) test)
