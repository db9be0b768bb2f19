-- What a reader of cables gives is sound.
use Rattle.std.proofs.Common.{◌≡◌, ℕ, zero, suc, ◌+◌, ◌-◌, ◌<◌, ◌≤◌, true, false, not, ◌&&◌, eqb, ltb, leb, List, sym, refl, ap, ◌∙◌, ⊎_elim, arith}
use Rattle.std.proofs.lemmas.Bool.{cases_Bool, and_parts, eqb-true, ltb-true, leb-true, cond-true, cond-false, and_from, eq-eqb}
use Rattle.octets.specs.Parse.{Got, Read, Bad, and_then, byte, word}
use Rattle.octets.proofs.Yields.{Yields, yields_read, yields_check, yields_then, yields_any}
use Rattle.wire.specs.declared.board.Wire.{Wire}
use Rattle.wire.specs.declared.board.Wire.TheVariants.{Nothing, Outside, To}
use Rattle.octets.specs.Parse.{between, below}
use Rattle.wire.specs.Wires.{Wires, bare, put, is_free, is_cable, leads, Link, There, Back, Ends, Apart, Sound}
use Rattle.wire.specs.Layouts.{times, free_port, open_port, linked, cable, outside, wires, layout}
use Rattle.wire.specs.Laws.{GoodLayout, Cabled}
use Rattle.wire.proofs.Boards.{put_here}

-- Tests of what hangs on a port.
free_none : (x : Wire) → is_free x ≡ true → x ≡ Nothing
free_none Nothing t = refl
free_none Outside t = let z : ◌≡◌ {A = ℕ} 0 1 = cc in absurd (omega arith)
free_none (To i p) t = let z : ◌≡◌ {A = ℕ} 0 1 = cc in absurd (omega arith)

open_no_cable : (x : Wire) (i p : ℕ) → not (is_cable x) ≡ true → x ≡ To i p → ⊥
open_no_cable Nothing i p t e = let z : ◌≡◌ {A = ℕ} 0 1 = cc in absurd (omega arith)
open_no_cable Outside i p t e = let z : ◌≡◌ {A = ℕ} 0 1 = cc in absurd (omega arith)
open_no_cable (To j q) i p t e = let z : ◌≡◌ {A = ℕ} 0 1 = cc in absurd (omega arith)

pub leads_to : (x : Wire) (i p : ℕ) → leads x i p ≡ true → x ≡ To i p
leads_to Nothing i p t = let z : ◌≡◌ {A = ℕ} 0 1 = cc in absurd (omega arith)
leads_to Outside i p t = let z : ◌≡◌ {A = ℕ} 0 1 = cc in absurd (omega arith)
leads_to (To j q) i p t = let e = and_parts (eqb j i) (eqb q p) t in λ z. To (eqb-true j i e.0 z) (eqb-true q p e.1 z)

leads_there : (x : Wire) (i p : ℕ) → x ≡ To i p → leads x i p ≡ true
leads_there x i p e = ap (λ y. leads y i p) e ∙ and_from (eqb i i) (eqb p p) (eq-eqb i i refl) (eq-eqb p p refl)

pub sound_back : (n ports : ℕ) (w : Wires) → Sound n ports w → Back w
sound_back n ports w s l e = leads_there _ l.switch l.port (s.both l.switch l.port l.to_switch l.to_port e)

pub sound_ends : (n ports : ℕ) (w : Wires) → Sound n ports w → Ends n ports w
sound_ends n ports w s l e = s.ends l.switch l.port l.to_switch l.to_port e

pub sound_apart : (n ports : ℕ) (w : Wires) → Sound n ports w → Apart w
sound_apart n ports w s l e = s.apart l.switch l.port l.to_switch l.to_port e

link : ℕ → ℕ → ℕ → ℕ → Link
link j q i p = record { switch = j; port = q; to_switch = i; to_port = p }

pub sound_all : (n ports : ℕ) (w : Wires) → There n ports w → Back w → Ends n ports w → Apart w → Sound n ports w
unfolding link
sound_all n ports w there back ends apart =
    record {
      there = there;
      both = λ j q i p e. leads_to (w i p) j q (back (link j q i p) e);
      ends = λ j q i p e. ends (link j q i p) e;
      apart = λ j q i p e. apart (link j q i p) e;
    }

-- Port q of switch j after a put at port p of switch i.
data At (i p : ℕ) (x : Wire) (w : Wires) (j q : ℕ) : Type 0 where
  here : j ≡ i → q ≡ p → put i p x w j q ≡ x → At i p x w j q
  other : put i p x w j q ≡ w j q → At i p x w j q

at : (i p : ℕ) (x : Wire) (w : Wires) (j q : ℕ) → At i p x w j q
at i p x w j q =
    ⊎_elim (λ t. let e = and_parts (eqb j i) (eqb q p) t in here (eqb-true j i e.0) (eqb-true q p e.1) (cond-true (eqb j i && eqb q p) x (w j q) t))
    (λ f. other (cond-false (eqb j i && eqb q p) x (w j q) f)) (cases_Bool (eqb j i && eqb q p))

module _ (n ports : ℕ) where
  bare_sound : Sound n ports bare
  bare_sound =
      record {
        there = λ i p e. let z : ◌≡◌ {A = ℕ} 0 1 = cc in absurd (omega arith);
        both = λ j q i p e. let z : ◌≡◌ {A = ℕ} 0 1 = cc in absurd (omega arith);
        ends = λ j q i p e. let z : ◌≡◌ {A = ℕ} 0 1 = cc in absurd (omega arith);
        apart = λ j q i p e _ _. let z : ◌≡◌ {A = ℕ} 0 1 = cc in absurd (omega arith);
      }

  -- A port that is on no cable becomes an outside port.
  module _ (w : Wires) (s : Sound n ports w) (i p : ℕ) (li : i < n) (lp : p < ports) (loose : not (is_cable (w i p)) ≡ true) where
    v : Wires
    v = put i p Outside w

    was : (j q a b : ℕ) → v j q ≡ To a b → w j q ≡ To a b
    unfolding v
    was j q a b e = elim (at i p Outside w j q) [ here _ _ o ↦ (let z : ◌≡◌ {A = ℕ} 0 1 = cc in absurd (omega arith)) | other o ↦ sym o ∙ e ]

    there : (j q : ℕ) → is_free (v j q) ≡ false → (j < n) × (q < ports)
    unfolding v
    there j q f = elim (at i p Outside w j q) [ here ej eq o ↦ (omega arith, omega arith) | other o ↦ s.there j q (ap is_free (sym o) ∙ f) ]

    both : (j q a b : ℕ) → v j q ≡ To a b → v a b ≡ To j q
    unfolding v
    both j q a b e =
        let back = s.both j q a b (was j q a b e) in
        elim (at i p Outside w a b) [ here ea eb o ↦ absurd (open_no_cable (w i p) j q loose (cc)) | other o ↦ o ∙ back ]

    outside_sound : Sound n ports (put i p Outside w)
    unfolding v
    outside_sound =
        record {
          there = there;
          both = both;
          ends = λ j q a b e. s.ends j q a b (was j q a b e);
          apart = λ j q a b e. s.apart j q a b (was j q a b e);
        }

  -- A cable between two ports of which one is held and the other is free.
  module _ (w : Wires) (s : Sound n ports w) (i p j q : ℕ) (li : i < n) (lp : p < ports) (lj : j < n) (lq : q < ports)
      (held : w i p ≡ Outside) (free : w j q ≡ Nothing) where
    u : Wires
    u = put j q (To i p) (put i p (To j q) w)

    -- what hangs on a port then
    data Now (a b : ℕ) : Type 0 where
      first : a ≡ i → b ≡ p → u a b ≡ To j q → Now a b
      second : a ≡ j → b ≡ q → u a b ≡ To i p → Now a b
      same : u a b ≡ w a b → Now a b

    look : (a b : ℕ) → Now a b
    unfolding u
    look a b =
        elim (at j q (To i p) (put i p (To j q) w) a b) [
          | here ea eb o ↦ second ea eb o
          | other o ↦ elim (at i p (To j q) w a b) [ here ea eb m ↦ first ea eb (o ∙ m) | other m ↦ same (o ∙ m) ]
        ]

    at_second : u j q ≡ To i p
    unfolding u
    at_second = put_here j q (To i p) (put i p (To j q) w)

    at_first : u i p ≡ To j q
    unfolding u
    at_first =
        elim (at j q (To i p) (put i p (To j q) w) i p) [
          | here ei ep o ↦ (let z : ◌≡◌ {A = ℕ} 0 1 = cc in absurd (omega arith))
          | other o ↦ o ∙ put_here i p (To j q) w
        ]

    u_there : (a b : ℕ) → is_free (u a b) ≡ false → (a < n) × (b < ports)
    u_there a b f =
        elim (look a b) [ first ea eb o ↦ (omega arith, omega arith) | second ea eb o ↦ (omega arith, omega arith) | same o ↦ s.there a b (ap is_free (sym o) ∙ f) ]

    u_both : (a b c d : ℕ) → u a b ≡ To c d → u c d ≡ To a b
    u_both a b c d e =
        elim (look a b) [ first ea eb o ↦ cc (at_second) | second ea eb o ↦ cc (at_first) | same o ↦ kept (s.both a b c d (sym o ∙ e)) ]
      where
        kept : w c d ≡ To a b → u c d ≡ To a b
        kept back =
            elim (look c d) [
              | first ec ed o ↦ (let z : ◌≡◌ {A = ℕ} 0 1 = cc in absurd (omega arith))
              | second ec ed o ↦ (let z : ◌≡◌ {A = ℕ} 0 1 = cc in absurd (omega arith))
              | same o ↦ o ∙ back
            ]

    u_ends : (a b c d : ℕ) → u a b ≡ To c d → (c < n) × (d < ports)
    u_ends a b c d e =
        elim (look a b) [
          | first ea eb o ↦ (let ec : j ≡ c = cc in let ed : q ≡ d = cc in (omega arith, omega arith))
          | second ea eb o ↦ (let ec : i ≡ c = cc in let ed : p ≡ d = cc in (omega arith, omega arith))
          | same o ↦ s.ends a b c d (sym o ∙ e)
        ]

    u_apart : (a b c d : ℕ) → u a b ≡ To c d → a ≡ c → b ≡ d → ⊥
    u_apart a b c d e f g =
        elim (look a b) [
          | first ea eb o ↦ (let z : ◌≡◌ {A = ℕ} 0 1 = cc in absurd (omega arith))
          | second ea eb o ↦ (let z : ◌≡◌ {A = ℕ} 0 1 = cc in absurd (omega arith))
          | same o ↦ s.apart a b c d (sym o ∙ e) f g
        ]

    linked_sound : Sound n ports (put j q (To i p) (put i p (To j q) w))
    unfolding u
    linked_sound = record { there = u_there; both = u_both; ends = u_ends; apart = u_apart }

  -- What the readers give.
  yields_below : (m : ℕ) → Yields (below m) (λ i. i < m)
  yields_below m = yields_then (λ x. Unit {0}) _ byte _ (yields_any byte) (λ x _. yields_check (λ y. y < m) (ltb x m) 2 x (ltb-true x m))

  yields_free : (w : Wires) (i : ℕ) → Yields (free_port ports w i) (λ p. (p < ports) × (is_free (w i p) ≡ true))
  yields_free w i = yields_then (λ p. p < ports) _ (below ports) _ (yields_below ports) (λ p lt. yields_check _ (is_free (w i p)) 4 p (λ t. (lt, t)))

  yields_open : (w : Wires) (i : ℕ) → Yields (open_port ports w i) (λ p. (p < ports) × (not (is_cable (w i p)) ≡ true))
  yields_open w i = yields_then (λ p. p < ports) _ (below ports) _ (yields_below ports) (λ p lt. yields_check _ (not (is_cable (w i p))) 4 p (λ t. (lt, t)))

  free_open : (x : Wire) → is_free x ≡ true → not (is_cable x) ≡ true
  free_open x t = ap (λ y. not (is_cable y)) (free_none x t)

  cable_sound : (w : Wires) → Sound n ports w → Yields (cable n ports w) (Sound n ports)
  cable_sound w s =
      yields_then (λ i. i < n) _ (below n) _ (yields_below n) (λ i li.
      yields_then _ _ (free_port ports w i) _ (yields_free w i) (λ p fp.
      yields_then (λ j. j < n) _ (below n) _ (yields_below n) (λ j lj.
      yields_then _ _ (free_port ports (put i p Outside w) j) _ (yields_free (put i p Outside w) j) (λ q fq.
      yields_read (Sound n ports) (linked i p j q w)
      (linked_sound (put i p Outside w) (outside_sound w s i p li fp.0 (free_open (w i p) fp.1)) i p j q li fp.0 lj fq.0
      (put_here i p Outside w) (free_none (put i p Outside w j q) fq.1))))))

  open_sound : (w : Wires) → Sound n ports w → Yields (outside n ports w) (Sound n ports)
  open_sound w s =
      yields_then (λ i. i < n) _ (below n) _ (yields_below n) (λ i li.
      yields_then _ _ (open_port ports w i) _ (yields_open w i) (λ p fp.
      yields_read (Sound n ports) (put i p Outside w) (outside_sound w s i p li fp.0 fp.1)))

yields_times : {X : Type 0} (P : X → Type 0) (step : X → List ℕ → Got X) → ((x : X) → P x → Yields (step x) P) →
    (k : ℕ) (x : X) → P x → Yields (times k step x) P
yields_times P step h zero x px = yields_read P x px
yields_times P step h (suc k) x px = yields_then P P (step x) _ (h x px) (λ y py. yields_times P step h k y py)

pub wires_sound : (n ports : ℕ) → Yields (wires n ports) (Sound n ports)
wires_sound n ports =
    yields_then (λ k. Unit {0}) _ word _ (yields_any word) (λ k _.
    yields_then (Sound n ports) _ (times k (cable n ports) bare) _ (yields_times (Sound n ports) (cable n ports) (cable_sound n ports) k bare (bare_sound n ports)) (λ w s.
    yields_then (λ l. Unit {0}) _ word _ (yields_any word) (λ l _. yields_times (Sound n ports) (outside n ports) (open_sound n ports) l w s)))

-- What the reader of a whole list gives.
yields_between : (low high : ℕ) → Yields (between low high) (λ x. (low ≤ x) × (x ≤ high))
yields_between low high = yields_then (λ x. Unit {0}) _ byte _ (yields_any byte) (λ x _. yields_check _ (leb low x && leb x high) 2 x range)
  where
    range : {x : ℕ} → (leb low x && leb x high) ≡ true → (low ≤ x) × (x ≤ high)
    range {x} t = let p = and_parts (leb low x) (leb x high) t in (leb-true low x p.0, leb-true x high p.1)

good_layout : Yields layout GoodLayout
good_layout =
    yields_then (λ n. (1 ≤ n) × (n ≤ 24)) _ (between 1 24) _ (yields_between 1 24) (λ n gn.
    yields_then (λ m. (1 ≤ m) × (m ≤ 32)) _ (between 1 32) _ (yields_between 1 32) (λ m gm.
    yields_then (λ h. (0 ≤ h) × (h ≤ 16)) _ (between 0 16) _ (yields_between 0 16) (λ h gh.
    yields_then (Sound n m) _ (wires n m) _ (wires_sound n m) (λ w s.
    yields_read GoodLayout (record { switches = n; ports = m; hops = h; wire = w }) (record { switches = gn; ports = gm; hops = gh.1; sound = s })))))

pub cabled : Cabled
cabled bs rest x e = good_layout bs x rest e

-- One turn of a loop that reads.
pub times_more : {X : Type 0} (step : X → List ℕ → Got X) (k i : ℕ) (x y : X) (bs r : List ℕ) → i < k → Read y r ≡ step x bs →
    times (k - (i + 1)) step y r ≡ times (k - i) step x bs
times_more step k i x y bs r lt e =
    let one : k - i ≡ suc (k - (i + 1)) = omega arith in
    ap (λ g. and_then g (λ z q. times (k - (i + 1)) step z q)) e ∙ ap (λ j. times j step x bs) (sym one)

pub times_stop : {X : Type 0} (step : X → List ℕ → Got X) (k i : ℕ) (x : X) (bs : List ℕ) (f : ℕ) → i < k → Bad f ≡ step x bs → Bad f ≡ times (k - i) step x bs
times_stop step k i x bs f lt e =
    let one : k - i ≡ suc (k - (i + 1)) = omega arith in
    ap (λ g. and_then g (λ z q. times (k - (i + 1)) step z q)) e ∙ ap (λ j. times j step x bs) (sym one)
