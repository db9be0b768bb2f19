-- From the values of one field to all packets, and from one field to the next.
use Rattle.std.proofs.Common.{◌≡◌, ℕ, ◌+◌, ◌<◌, ◌≤◌, Bool, true, false, ◌||◌, ◌≢◌, ◌⊎◌, List, length, get_or, take, set, Some, None, Option, sym, refl, ap, ◌∙◌, subst, inl, inr, ⊎_elim, arith}
use Rattle.std.proofs.lemmas.List.{get_or-set_same, get_or-set_other, get_or-take, length-set, set_past, take_all, take-set, take-take, take_more_same, get_or_default}
use Rattle.std.proofs.lemmas.Bool.{cases_eq, cases_lt}
use Rattle.packet.specs.Packet.{Packet, IsPacket, put, field, Before}
use Rattle.packet.specs.declared.packets.Packet as code
use Rattle.trees.specs.declared.node.Node.{Node}
use Rattle.trees.specs.Trees.{Tree, Alike}
use Rattle.trees.specs.Nodes.{tree_at, Kept}
use Rattle.trees.specs.Names.{Unnamed}
use Rattle.trees.specs.Stores.{Given}
use Rattle.trees.specs.Search.{Everywhere, FirstAt, Settled}
use Rattle.trees.specs.Walking.{Stood, Walked}
use Rattle.trees.proofs.Alikes.{set_then, set_back}
use Rattle.trees.proofs.Giving.{kept_copies}
use Rattle.trees.proofs.Moving.{alike_moved}

-- all fields are fixed: there is one packet
only : (f : ℕ) (p q : Packet) → 8 ≤ f → length p ≡ 8 → length q ≡ 8 → take f p ≡ take f q → p ≡ q
only f p q h l m e = sym (take_all f p (omega arith)) ∙ e ∙ take_all f q (omega arith)

pub settled_agree : (a b : Tree) (f : ℕ) (q : Packet) → 8 ≤ f → length q ≡ 8 → Alike a b q → Everywhere a b f q
settled_agree a b f q h l alike p is same = subst (Alike a b) (sym (only f p q h is.eight l same)) alike

pub settled_differ : (a b : Tree) (f : ℕ) (q : Packet) → 8 ≤ f → IsPacket q → (Alike a b q → ⊥) → FirstAt a b f q q
settled_differ a b f q h l differ =
    record {
      packet = l;
      starts = refl;
      differ = differ;
      before = λ p is same less. absurd (omega (arith, subst (λ r. field less.at r < field less.at q) (only f p q h is.eight l.eight same) less.less));
    }

-- the field f is fixed too
fixed : (f x : ℕ) (p q : Packet) → f < length q → take (f + 1) p ≡ take (f + 1) (put f x q) → field f p ≡ x
fixed f x p q low e =
    sym (get_or-take (f + 1) p f 0 (omega arith)) ∙ ap (λ l. get_or l f 0) e ∙ get_or-take (f + 1) (put f x q) f 0 (omega arith) ∙ get_or-set_same q f x 0 low

fixed_front : (f x : ℕ) (p q : Packet) → take (f + 1) p ≡ take (f + 1) (put f x q) → take f p ≡ take f q
fixed_front f x p q e =
    sym (take-take f (f + 1) p (omega arith)) ∙ ap (take f) e ∙ take-take f (f + 1) (put f x q) (omega arith) ∙ take-set q f x

fix : (f x : ℕ) (p q : Packet) → f < length p → f < length q → take f p ≡ take f q → field f p ≡ x → take (f + 1) p ≡ take (f + 1) (put f x q)
fix f x p q lp lq e is =
    take_more_same p (put f x q) f 0 lp (omega (arith, length-set q f x)) (e ∙ sym (take-set q f x)) (is ∙ sym (get_or-set_same q f x 0 lq))

-- trees that do the same where the field has the value
module _ (ns ms ls : List Node) (f x a b c d : ℕ) (k : Kept ns ms) (l : Kept ms ls) (bn : b < length ns) (g : Given ns ms f x a c) (h : Given ms ls f x b d) where
  first_like : (p : Packet) → length p ≡ 8 → field f p ≡ x → Alike (tree_at ls c) (tree_at ns a) p
  first_like p e is = set_then (kept_copies c p l g.there) (g.like p e is)

  second_like : (p : Packet) → length p ≡ 8 → field f p ≡ x → Alike (tree_at ls d) (tree_at ns b) p
  second_like p e is = set_then (h.like p e is) (kept_copies b p k bn)

  there : (p : Packet) → length p ≡ 8 → field f p ≡ x → Alike (tree_at ls c) (tree_at ls d) p → Alike (tree_at ns a) (tree_at ns b) p
  there p e is same = set_then (set_back (first_like p e is)) (set_then same (second_like p e is))

  back : (p : Packet) → length p ≡ 8 → field f p ≡ x → Alike (tree_at ns a) (tree_at ns b) p → Alike (tree_at ls c) (tree_at ls d) p
  back p e is same = set_then (first_like p e is) (set_then same (set_back (second_like p e is)))

  pub settled_given : (q : Packet) (r : Option code.Packet) → f < length q → Settled (tree_at ls c) (tree_at ls d) (f + 1) (put f x q) r →
      Settled (tree_at ns a) (tree_at ns b) (f + 1) (put f x q) r
  settled_given q None low s = λ p is e. there p is.eight (fixed f x p q low e) (s p is e)
  settled_given q (Some r) low s =
      record {
        packet = s.packet;
        starts = s.starts;
        differ = λ same. s.differ (back r.fields s.packet.eight (fixed f x r.fields q low s.starts) same);
        before = λ p is e less. there p is.eight (fixed f x p q low e) (s.before p is e less);
      }

pub settled_kept : (ns ms : List Node) (a b f : ℕ) (q : Packet) (r : Option code.Packet) → Kept ns ms → a < length ns → b < length ns →
    Settled (tree_at ms a) (tree_at ms b) f q r → Settled (tree_at ns a) (tree_at ns b) f q r
settled_kept ns ms a b f q r k la lb s =
    subst (λ t. Settled (tree_at ns a) t f q r) (k.same b lb) (subst (λ t. Settled t (tree_at ms b) f q r) (k.same a la) s)

-- a value that is read from the marks
pub read_unmarked : (ms : List Bool) (x : ℕ) → x < length ms → get_or ms x false ≡ false → get_or ms x true ≡ false
read_unmarked ms x l h = get_or_default ms x true false l ∙ h

above : (n m : ℕ) → m ≤ n → (n ≡ m → ⊥) → m < n
above n m h ne = ⊎_elim (λ l. absurd (omega arith)) (λ g. ⊎_elim (λ l. l) (λ k. absurd (ne (omega arith))) (cases_lt m n)) (cases_lt n m)

pub put_packet : (f x : ℕ) (p : Packet) → x < 65536 → IsPacket p → IsPacket (put f x p)
put_packet f x p small is =
    record {
      eight = length-set p f x ∙ is.eight;
      small =
          λ g.
          ⊎_elim
          (λ e.
          ⊎_elim
          (λ l. subst (λ v. v < 65536) (sym (ap (λ k. get_or (set p f x) k 0) e ∙ get_or-set_same p f x 0 l)) small)
          (λ l. subst (λ k. get_or k g 0 < 65536) (sym (set_past p f x l)) (is.small g))
          (cases_lt f (length p)))
          (λ ne. let other : g ≢ f = ne in subst (λ v. v < 65536) (sym (get_or-set_other p f g x 0 other)) (is.small g))
          (cases_eq g f);
    }

-- one value after the other
module _ (a b : Tree) (f : ℕ) (q : Packet) (ms : List Bool) (low : f < 8) (eight : length q ≡ 8) where
  -- up to x, if x is settled
  up_to : (x : ℕ) (stood : Bool) → Walked a b f q ms x stood → ((p : Packet) → IsPacket p → take f p ≡ take f q → field f p ≡ x → Alike a b p) →
      (p : Packet) → IsPacket p → take f p ≡ take f q → field f p < x + 1 → Alike a b p
  up_to x stood w here p is e less = ⊎_elim (λ l. w.same p is e l) (λ g. here p is e (omega arith)) (cases_lt (field f p) x)

  -- another value that is named nowhere stood for x
  pub walked_like : (x : ℕ) → x < 65536 → ((y : ℕ) → get_or ms y true ≡ false → Unnamed f y a × Unnamed f y b) → get_or ms x true ≡ false → Walked a b f q ms x true →
      Walked a b f q ms (x + 1) true
  walked_like x small out un w =
      record {
        same =
            up_to x true w
            (λ p is e at.
            let z = w.like.0 in
            let less : z < x = w.like.1 in
            let longer : f < length p = omega (arith, is.eight) in
            let zs = out z w.like.2 in
            let xs = out x un in
            alike_moved a b f x z p longer at xs.0 zs.0 xs.1 zs.1
            (w.same (put f z p) (put_packet f z p (omega arith) is) (take-set p f z ∙ e)
            (subst (λ v. v < x) (sym (get_or-set_same p f z 0 longer)) less)));
        like = (w.like.0, omega (arith, w.like.1), w.like.2);
      }

  stood_more : (x : ℕ) (stood unnamed : Bool) → (unnamed ≡ true → get_or ms x true ≡ false) → Stood ms x stood → Stood ms (x + 1) (stood || unnamed)
  stood_more x true u h s = (s.0, omega (arith, s.1), s.2)
  stood_more x false true h s = (x, omega arith, h refl)
  stood_more x false false h s = tt

  pub walked_more : (x : ℕ) (stood unnamed : Bool) → (unnamed ≡ true → get_or ms x true ≡ false) → Walked a b f q ms x stood → Everywhere a b (f + 1) (put f x q) →
      Walked a b f q ms (x + 1) (stood || unnamed)
  walked_more x stood u h w s =
      record {
        same = up_to x stood w (λ p is e at. s p is (fix f x p q (omega (arith, is.eight)) (omega arith) e at));
        like = stood_more x stood u h w.like;
      }

  -- a difference, and none before it
  pub walked_found : (x : ℕ) (stood : Bool) (r : Packet) → Walked a b f q ms x stood → FirstAt a b (f + 1) (put f x q) r → FirstAt a b f q r
  walked_found x stood r w s =
      record {
        packet = s.packet;
        starts = front;
        differ = s.differ;
        before = λ p is e less. earlier p is e less (cases_lt less.at f) (cases_eq less.at f);
      }
    where
      longer : f < length q
      longer = omega arith

      at : field f r ≡ x
      at = fixed f x r q longer s.starts

      front : take f r ≡ take f q
      front = fixed_front f x r q s.starts

      earlier : (p : Packet) → IsPacket p → take f p ≡ take f q → (less : Before p r) → (less.at < f) ⊎ (f ≤ less.at) → (less.at ≡ f) ⊎ (less.at ≡ f → ⊥) → Alike a b p
      earlier p is e less (inl l) _ =
          absurd
          (omega (
            arith,
            less.less,
            sym (get_or-take f p less.at 0 l) ∙ ap (λ k. get_or k less.at 0) (e ∙ sym front) ∙ get_or-take f r less.at 0 l,
          ))
      earlier p is e less (inr g) (inl same) =
          w.same p is e (subst (λ v. field f p < v) at (subst (λ k. field k p < field k r) same less.less))
      earlier p is e less (inr g) (inr ne) =
          let more : f + 1 ≤ less.at = omega (arith, above less.at f g ne) in
          s.before p is
          (sym (take-take (f + 1) less.at p more) ∙ ap (take (f + 1)) less.same ∙ take-take (f + 1) less.at r more ∙ s.starts) less
