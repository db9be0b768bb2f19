-- A list of cables and outside ports that grows in any order: the wires are those of the cables first and the outside ports then.
use Rattle.std.proofs.Common.{◌≡◌, ℕ, Bool, true, false, cond, not, ◌&&◌, eqb, List, [], ◌∷◌, ◌++◌, sym, refl, ap, ◌∙◌, subst, ⊎_elim}
use Rattle.std.proofs.lemmas.Bool.{cases_Bool, and_parts, and_from, eqb-true, eq-eqb, cond-false, true≢false}
use Rattle.wire.specs.declared.board.Wire.{Wire}
use Rattle.wire.specs.declared.board.Wire.TheVariants.{Outside, To}
use Rattle.wire.specs.declared.list.End.{End}
use Rattle.wire.specs.declared.list.Cable.{Cable}
use Rattle.wire.specs.Wires.{Wires, bare, put, is_free, is_cable}
use Rattle.wire.specs.Layouts.{linked}
use Rattle.wire.specs.Lists.{plug, plugged, opened, Pluggable, AllPluggable, Openable, AllOpenable}
use Rattle.script.specs.Headers.{Kept}

-- two ports are two, whichever is named first
apart_back : (a b c d : ℕ) → (eqb a b && eqb c d) ≡ false → (eqb b a && eqb d c) ≡ false
apart_back a b c d f =
    ⊎_elim
    (λ t. let e = and_parts (eqb b a) (eqb d c) t in
    absurd (true≢false (sym (and_from (eqb a b) (eqb c d) (eq-eqb a b (sym (eqb-true b a e.0))) (eq-eqb c d (sym (eqb-true d c e.1)))) ∙ f)))
    (λ t. t) (cases_Bool (eqb b a && eqb d c))

cond_swap : {X : Type 0} (s t : Bool) (x y z : X) → (s ≡ true → t ≡ true → ⊥) → cond s y (cond t x z) ≡ cond t x (cond s y z)
cond_swap true true x y z n = absurd (n refl refl)
cond_swap true false x y z n = refl
cond_swap false true x y z n = refl
cond_swap false false x y z n = refl

put_swap : (i p j q : ℕ) (x y : Wire) (w : Wires) → (eqb i j && eqb p q) ≡ false → put j q y (put i p x w) ≡ put i p x (put j q y w)
put_swap i p j q x y w f z a b =
    cond_swap (eqb a j && eqb b q) (eqb a i && eqb b p) x y (w a b)
    (λ s t.
    let e = and_parts (eqb a j) (eqb b q) s in
    let d = and_parts (eqb a i) (eqb b p) t in
    true≢false
    (sym (and_from (eqb i j) (eqb p q) (eq-eqb i j (sym (eqb-true a i d.0) ∙ eqb-true a j e.0)) (eq-eqb p q (sym (eqb-true b p d.1) ∙ eqb-true b q e.1)))
    ∙ f)) z

cond_twice : {X : Type 0} (s : Bool) (x y z : X) → cond s x (cond s y z) ≡ cond s x z
cond_twice true x y z = refl
cond_twice false x y z = refl

-- what a cable puts on the port of its one end goes over what held it
pub linked_at : (i p j q : ℕ) (w : Wires) → put j q (To i p) (put i p (To j q) w) ≡ linked i p j q w
linked_at i p j q w = ap (put j q (To i p)) (λ z a b. sym (cond_twice (eqb a i && eqb b p) (To j q) Outside (w a b)) z)

-- a port that is free after a put is another one, and was free before
put_free : (j q i p : ℕ) (w : Wires) → is_free (put j q Outside w i p) ≡ true → ((eqb i j && eqb p q) ≡ false) × (is_free (w i p) ≡ true)
put_free j q i p w h = by (eqb i j && eqb p q) h
  where
    by : (t : Bool) → is_free (cond t Outside (w i p)) ≡ true → (t ≡ false) × (is_free (w i p) ≡ true)
    by true e = absurd (true≢false (sym e))
    by false e = (refl, e)

-- a port that is none of these
abbrev pub NotIn : ℕ → ℕ → List End → Type 0
NotIn i p [] = Unit {0}
NotIn i p (e ∷ es) = ((eqb i e.switch && eqb p e.port) ≡ false) × NotIn i p es

open_free : (es : List End) (w : Wires) (i p : ℕ) → is_free (opened es w i p) ≡ true → is_free (w i p) ≡ true
open_free [] w i p h = h
open_free (e ∷ es) w i p h = (put_free e.switch e.port i p w (open_free es (put e.switch e.port Outside w) i p h)).1

open_notin : (es : List End) (w : Wires) (i p : ℕ) → is_free (opened es w i p) ≡ true → NotIn i p es
open_notin [] w i p h = tt
open_notin (e ∷ es) w i p h =
    let v = put e.switch e.port Outside w in
    ((put_free e.switch e.port i p w (open_free es v i p h)).0, open_notin es v i p h)

opened_put : (es : List End) (w : Wires) (i p : ℕ) (x : Wire) → NotIn i p es → opened es (put i p x w) ≡ put i p x (opened es w)
opened_put [] w i p x n = refl
opened_put (e ∷ es) w i p x n =
    ap (opened es) (put_swap i p e.switch e.port x Outside w n.0) ∙ opened_put es (put e.switch e.port Outside w) i p x n.1

module _ (n ports : ℕ) where
  open_put : (es : List End) (w : Wires) (i p : ℕ) (x : Wire) → NotIn i p es → AllOpenable n ports w es → AllOpenable n ports (put i p x w) es
  open_put [] w i p x a g = tt
  open_put (e ∷ es) w i p x a g =
      let same : put i p x w e.switch e.port ≡ w e.switch e.port = cond-false _ x (w e.switch e.port) (apart_back i e.switch p e.port a.0) in (
        record { named = g.0.named; loose = ap (λ y. not (is_cable y)) same ∙ g.0.loose },
        subst (λ v. AllOpenable n ports v es) (sym (put_swap i p e.switch e.port x Outside w a.0))
            (open_put es (put e.switch e.port Outside w) i p x a.1 g.1),
      )

  plug_more : (w : Wires) (cs : List Cable) (c : Cable) → AllPluggable n ports w cs → Pluggable n ports (plugged cs w) c → AllPluggable n ports w (cs ++ c ∷ [])
  plug_more w [] c g h = (h, tt)
  plug_more w (b ∷ cs) c g h = (g.0, plug_more (plug b w) cs c g.1 h)

  open_more : (w : Wires) (es : List End) (e : End) → AllOpenable n ports w es → Openable n ports (opened es w) e → AllOpenable n ports w (es ++ e ∷ [])
  open_more w [] e g h = (h, tt)
  open_more w (d ∷ es) e g h = (g.0, open_more (put d.switch d.port Outside w) es e g.1 h)

plugged_more : (w : Wires) (cs : List Cable) (c : Cable) → plugged (cs ++ c ∷ []) w ≡ plug c (plugged cs w)
plugged_more w [] c = refl
plugged_more w (b ∷ cs) c = plugged_more (plug b w) cs c

opened_more : (w : Wires) (es : List End) (e : End) → opened (es ++ e ∷ []) w ≡ put e.switch e.port Outside (opened es w)
opened_more w [] e = refl
opened_more w (d ∷ es) e = opened_more (put d.switch d.port Outside w) es e

module _ (n ports h : ℕ) (cs : List Cable) (es : List End) (w : Wires) (k : Kept n ports h cs es w) where
  abbrev old : Wires
  old = plugged cs bare

  pub cable_more : (c : Cable) → Pluggable n ports w c → Kept n ports h (cs ++ c ∷ []) es (plug c w)
  cable_more c g =
      let i = c.one.switch in
      let p = c.one.port in
      let j = c.other.switch in
      let q = c.other.port in
      let free : is_free (opened es old i p) ≡ true = ap (λ v. is_free (v i p)) (sym k.same) ∙ g.free in
      let free_too : is_free (put i p Outside (opened es old) j q) ≡ true = ap (λ v. is_free (put i p Outside v j q)) (sym k.same) ∙ g.free_too in
      let one : NotIn i p es = open_notin es old i p free in
      let two : NotIn j q es = open_notin es old j q (put_free i p j q (opened es old) free_too).1 in
      let held = put i p Outside old in
      let half = put i p (To j q) held in
      let fits : Pluggable n ports old c =
      record {
        one = g.one;
        other = g.other;
        free = open_free es old i p free;
        free_too = open_free es held j q (ap (λ v. is_free (v j q)) (opened_put es old i p Outside one) ∙ free_too);
      } in
      let moved : opened es (plug c old) ≡ plug c (opened es old) =
      opened_put es half j q (To i p) two
      ∙ ap (put j q (To i p)) (opened_put es held i p (To j q) one ∙ ap (put i p (To j q)) (opened_put es old i p Outside one)) in
      record {
        good =
            record {
              switches = k.good.switches;
              wide = k.good.wide;
              hops = k.good.hops;
              plugs = plug_more n ports bare cs c k.good.plugs fits;
              opens =
                  subst (λ v. AllOpenable n ports v es) (sym (plugged_more bare cs c))
                  (open_put n ports es half j q (To i p) two (open_put n ports es held i p (To j q) one (open_put n ports es old i p Outside one k.good.opens)));
            };
        same = ap (plug c) k.same ∙ sym moved ∙ ap (opened es) (sym (plugged_more bare cs c));
      }

  pub end_more : (e : End) → Openable n ports w e → Kept n ports h cs (es ++ e ∷ []) (put e.switch e.port Outside w)
  end_more e g =
      record {
        good =
            record {
              switches = k.good.switches;
              wide = k.good.wide;
              hops = k.good.hops;
              plugs = k.good.plugs;
              opens = open_more n ports old es e k.good.opens (subst (λ v. Openable n ports v e) k.same g);
            };
        same = ap (put e.switch e.port Outside) k.same ∙ sym (opened_more old es e);
      }
