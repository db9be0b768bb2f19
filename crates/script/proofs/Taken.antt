-- A cable or an outside port more; and the bytes of what was described.
use Rattle.std.proofs.Common.{◌≡◌, ℕ, ◌<◌, true, not, List, [], ◌∷◌, ◌++◌, sym, ap, ◌∙◌, subst}
use Rattle.std.proofs.lemmas.List.{append-nil}
use Rattle.octets.specs.Parse as parse
use Rattle.wire.specs.declared.board.Wire.TheVariants.{Outside}
use Rattle.wire.specs.declared.list.End.{End}
use Rattle.wire.specs.declared.list.Cable.{Cable}
use Rattle.wire.specs.Wires.{Wires, put, is_free, is_cable}
use Rattle.wire.specs.Layouts.{Layout, layout, linked}
use Rattle.wire.specs.Lists.{layout_bytes}
use Rattle.wire.proofs.Listed.{listed}
use Rattle.script.specs.Headers.{Kept}
use Rattle.script.proofs.Growing.{cable_more, end_more}

module _ (x : Layout) (cs : List Cable) (es : List End) (k : Kept x.switches x.ports x.hops cs es x.wire) where
  module _ (i p j q : ℕ) where
    abbrev both : Cable
    both = record { one = record { switch = i; port = p }; other = record { switch = j; port = q } }

    pub cable_kept : (all : Wires) (more : List Cable) → i < x.switches → p < x.ports → j < x.switches → q < x.ports →
        is_free (x.wire i p) ≡ true → is_free (put i p Outside x.wire j q) ≡ true → all ≡ linked i p j q x.wire → more ≡ cs ++ both ∷ [] →
        Kept x.switches x.ports x.hops more es all
    cable_kept all more li lp lj lq free free_too ea em =
        subst (λ l. Kept x.switches x.ports x.hops l es all) (sym em)
        (subst (Kept x.switches x.ports x.hops (cs ++ both ∷ []) es) (sym ea)
        (cable_more x.switches x.ports x.hops cs es x.wire k both
        (record {
          one = record { switch = li; port = lp };
          other = record { switch = lj; port = lq };
          free = free;
          free_too = free_too;
        })))

  pub end_kept : (i p : ℕ) (all : Wires) (more : List End) → i < x.switches → p < x.ports → not (is_cable (x.wire i p)) ≡ true → all ≡ put i p Outside x.wire →
      more ≡ es ++ record { switch = i; port = p } ∷ [] → Kept x.switches x.ports x.hops cs more all
  end_kept i p all more li lp loose ea em =
      subst (λ l. Kept x.switches x.ports x.hops cs l all) (sym em)
      (subst (Kept x.switches x.ports x.hops cs (es ++ record { switch = i; port = p } ∷ [])) (sym ea)
      (end_more x.switches x.ports x.hops cs es x.wire k (record { switch = i; port = p }) (record { named = record { switch = li; port = lp }; loose = loose })))

-- of as many switches and ports
pub kept_alike : (n n' ports ports' h : ℕ) (cs : List Cable) (es : List End) (w : Wires) → n' ≡ n → ports' ≡ ports → Kept n ports h cs es w → Kept n' ports' h cs es w
kept_alike n n' ports ports' h cs es w en ep k =
    subst (λ m. Kept m ports' h cs es w) (sym en) (subst (λ m. Kept n m h cs es w) (sym ep) k)

pub bytes_read : (n ports h : ℕ) (cs : List Cable) (es : List End) (w : Wires) → Kept n ports h cs es w →
    (n' ports' : ℕ) (out old : List ℕ) (cs' : List Cable) (es' : List End) → n' ≡ n → ports' ≡ ports → old ≡ [] → cs' ≡ cs → es' ≡ es → out ≡ old ++ layout_bytes n' ports' h cs' es' →
    parse.alone layout out ≡ parse.Read (record { switches = n; ports = ports; hops = h; wire = w }) []
bytes_read n ports h cs es w k n' ports' out old cs' es' en ep eo ec ee e =
    let whole : out ≡ layout_bytes n ports h cs es ++ [] =
    e ∙ (λ i. eo i ++ layout_bytes (en i) (ep i) h (ec i) (ee i)) ∙ sym (append-nil (layout_bytes n ports h cs es)) in
    ap (λ b. parse.and_then (layout b) parse.ended) whole ∙ ap (λ g. parse.and_then g parse.ended) (listed n ports h cs es [] k.good)
    ∙ ap (λ v. parse.Read (record { switches = n; ports = ports; hops = h; wire = v }) []) (sym k.same)
