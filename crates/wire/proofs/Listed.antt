-- What was written as a list of cables reads as the wires that it names.
use Rattle.std.proofs.Common.{◌≡◌, ℕ, ◌+◌, ◌*◌, ◌/◌, ◌%◌, List, [], ◌∷◌, ◌++◌, length, refl, ap, ◌∙◌, arith}
use Rattle.std.specs.List.{flat_map}
use Rattle.std.proofs.lemmas.List.{append_assoc}
use Rattle.std.proofs.lemmas.Bool.{lt-ltb, le-leb}
use Rattle.octets.specs.Parse.{Got, Read, and_then, word, word_bytes}
use Rattle.wire.specs.declared.list.End.{End}
use Rattle.wire.specs.declared.list.Cable.{Cable}
use Rattle.wire.specs.declared.board.Wire.TheVariants.{Outside}
use Rattle.wire.specs.Wires.{Wires, bare, put}
use Rattle.wire.specs.Layouts.{times, cable, outside, wires}
use Rattle.wire.specs.Lists.{end_bytes, cable_bytes, list_bytes, plug, plugged, opened, Pluggable, AllPluggable, Openable, AllOpenable}
use Rattle.wire.specs.Laws.{Listed}

word_back : {Y : Type 0} (v : ℕ) (rest : List ℕ) (f : ℕ → List ℕ → Got Y) → and_then (word (word_bytes v ++ rest)) f ≡ f v rest
word_back v rest f = let e : v / 256 * 256 + v % 256 ≡ v = omega arith in ap (λ x. f x rest) e

module _ (n ports : ℕ) where
  cable_back : (w : Wires) (c : Cable) (rest : List ℕ) → Pluggable n ports w c → cable n ports w (cable_bytes c ++ rest) ≡ Read (plug c w) rest
  cable_back w c rest g =
      rw (
        lt-ltb c.one.switch n g.one.switch,
        lt-ltb c.one.port ports g.one.port,
        g.free,
        lt-ltb c.other.switch n g.other.switch,
        lt-ltb c.other.port ports g.other.port,
        g.free_too,
      )

  cables_back : (w : Wires) (cs : List Cable) (rest : List ℕ) → AllPluggable n ports w cs →
      times (length cs) (cable n ports) w (flat_map cable_bytes cs ++ rest) ≡ Read (plugged cs w) rest
  cables_back w [] rest g = refl
  cables_back w (c ∷ cs) rest g =
      ap (λ l. and_then (cable n ports w l) (λ v r. times (length cs) (cable n ports) v r)) (append_assoc (cable_bytes c) (flat_map cable_bytes cs) rest)
      ∙ ap (λ o. and_then o (λ v r. times (length cs) (cable n ports) v r)) (cable_back w c (flat_map cable_bytes cs ++ rest) g.0)
      ∙ cables_back (plug c w) cs rest g.1

  end_back : (w : Wires) (e : End) (rest : List ℕ) → Openable n ports w e → outside n ports w (end_bytes e ++ rest) ≡ Read (put e.switch e.port Outside w) rest
  end_back w e rest g = rw (lt-ltb e.switch n g.named.switch, lt-ltb e.port ports g.named.port, g.loose)

  ends_back : (w : Wires) (es : List End) (rest : List ℕ) → AllOpenable n ports w es →
      times (length es) (outside n ports) w (flat_map end_bytes es ++ rest) ≡ Read (opened es w) rest
  ends_back w [] rest g = refl
  ends_back w (e ∷ es) rest g =
      ap (λ l. and_then (outside n ports w l) (λ v r. times (length es) (outside n ports) v r)) (append_assoc (end_bytes e) (flat_map end_bytes es) rest)
      ∙ ap (λ o. and_then o (λ v r. times (length es) (outside n ports) v r)) (end_back w e (flat_map end_bytes es ++ rest) g.0)
      ∙ ends_back (put e.switch e.port Outside w) es rest g.1

  -- what follows the cables
  abbrev further : Wires → List ℕ → Got Wires
  further w s = and_then (word s) (λ l t. times l (outside n ports) w t)

  list_back : (cs : List Cable) (es : List End) (rest : List ℕ) → AllPluggable n ports bare cs → AllOpenable n ports (plugged cs bare) es →
      wires n ports (list_bytes cs es ++ rest) ≡ Read (opened es (plugged cs bare)) rest
  list_back cs es rest gc ge =
      word_back (length cs) _ (λ k r. and_then (times k (cable n ports) bare r) further)
      ∙ ap (λ l. and_then (times (length cs) (cable n ports) bare l) further) (append_assoc (flat_map cable_bytes cs) _ rest)
      ∙ ap (λ o. and_then o further) (cables_back bare cs ((word_bytes (length es) ++ flat_map end_bytes es) ++ rest) gc)
      ∙ word_back (length es) (flat_map end_bytes es ++ rest) (λ l t. times l (outside n ports) (plugged cs bare) t)
      ∙ ends_back (plugged cs bare) es rest ge

pub listed : Listed
listed n ports h cs es rest g =
    rw (le-leb 1 n g.switches.0, le-leb n 24 g.switches.1, le-leb 1 ports g.wide.0, le-leb ports 32 g.wide.1, le-leb 0 h (omega arith), le-leb h 16 g.hops)
    (ap (λ o. and_then o (λ w u. Read (record { switches = n; ports = ports; hops = h; wire = w }) u)) (list_back n ports cs es rest g.plugs g.opens))
