-- What is kept of a net holds in one way alone, so that it may stand beside its lists.
use Rattle.std.specs.Prelude.{◌≡◌, ℕ, zero, suc, Bool, List, [], ◌∷◌, refl}
use Rattle.std.specs.Coded.{Coded, Coded-set, code_by, coded×, coded_ℕ, coded_bool, ×_prop, Unit-prop, le_prop}
use Rattle.wire.specs.declared.board.Wire.{Wire}
use Rattle.wire.specs.declared.board.Wire.TheVariants.{Nothing, Outside, To}
use Rattle.wire.specs.declared.list.End.{End}
use Rattle.wire.specs.declared.list.Cable.{Cable}
use Rattle.wire.specs.Wires.{Wires, put}
use Rattle.wire.specs.Lists.{Named, Pluggable, AllPluggable, Openable, AllOpenable, plug}
use Rattle.wire.specs.Laws.{GoodList}
use Rattle.script.specs.Headers.{Kept}

-- a wire as three numbers
abbrev numbers_of : Wire → ℕ × (ℕ × ℕ)
numbers_of Nothing = (0, (0, 0))
numbers_of Outside = (1, (0, 0))
numbers_of (To i p) = (2, (i, p))

abbrev wire_of : ℕ → ℕ → ℕ → Wire
wire_of zero i p = Nothing
wire_of (suc zero) i p = Outside
wire_of (suc (suc k)) i p = To i p

wire_back : (x : Wire) → wire_of (numbers_of x).0 (numbers_of x).1.0 (numbers_of x).1.1 ≡ x
wire_back Nothing = refl
wire_back Outside = refl
wire_back (To i p) = refl

abbrev wire_code : Coded Wire
wire_code = code_by (ℕ × (ℕ × ℕ)) (coded× coded_ℕ (coded× coded_ℕ coded_ℕ)) numbers_of (λ c. wire_of c.0 c.1.0 c.1.1) wire_back

same_prop : (w v : Wires) → IsProp (w ≡ v)
same_prop w v p q = λ i j a b. Coded-set wire_code (w a b) (v a b) (λ k. p k a b) (λ k. q k a b) i j

truth_prop : (x y : Bool) → IsProp (x ≡ y)
truth_prop x y = Coded-set coded_bool x y

module _ (n ports : ℕ) where
  named_prop : (e : End) → IsProp (Named n ports e)
  named_prop e a b = λ i. record { switch = le_prop a.switch b.switch i; port = le_prop a.port b.port i }

  plug_prop : (w : Wires) (c : Cable) → IsProp (Pluggable n ports w c)
  plug_prop w c a b =
      λ i. record {
        one = named_prop c.one a.one b.one i;
        other = named_prop c.other a.other b.other i;
        free = truth_prop _ _ a.free b.free i;
        free_too = truth_prop _ _ a.free_too b.free_too i;
      }

  plugs_prop : (w : Wires) (cs : List Cable) → IsProp (AllPluggable n ports w cs)
  plugs_prop w [] = Unit-prop
  plugs_prop w (c ∷ cs) = ×_prop (plug_prop w c) (plugs_prop (plug c w) cs)

  open_prop : (w : Wires) (e : End) → IsProp (Openable n ports w e)
  open_prop w e a b = λ i. record { named = named_prop e a.named b.named i; loose = truth_prop _ _ a.loose b.loose i }

  opens_prop : (w : Wires) (es : List End) → IsProp (AllOpenable n ports w es)
  opens_prop w [] = Unit-prop
  opens_prop w (e ∷ es) = ×_prop (open_prop w e) (opens_prop (put e.switch e.port Outside w) es)

good_prop : (n ports h : ℕ) (cs : List Cable) (es : List End) → IsProp (GoodList n ports h cs es)
good_prop n ports h cs es a b =
    λ i. record {
      switches = ×_prop le_prop le_prop a.switches b.switches i;
      wide = ×_prop le_prop le_prop a.wide b.wide i;
      hops = le_prop a.hops b.hops i;
      plugs = plugs_prop n ports _ cs a.plugs b.plugs i;
      opens = opens_prop n ports _ es a.opens b.opens i;
    }

pub kept_prop : (n ports h : ℕ) (cs : List Cable) (es : List End) (w : Wires) → IsProp (Kept n ports h cs es w)
kept_prop n ports h cs es w a b =
    λ i. record { good = good_prop n ports h cs es a.good b.good i; same = same_prop _ _ a.same b.same i }
