-- From trees to tables, and from tables to policies.
use Rattle.std.proofs.Common.{◌≡◌, ℕ, List, [], ◌++◌, length, take, sym, ap, ◌∙◌, subst}
use Rattle.std.proofs.lemmas.List.{take_at}
use Rattle.std.proofs.lemmas.Bool.{cond-true}
use Rattle.packet.specs.Packet.{Packet}
use Rattle.packet.specs.Policy.{Policy}
use Rattle.packet.specs.Table.{Table, Right, sent}
use Rattle.table.specs.Words.{rules_of, kept, sound}
use Rattle.trees.proofs.Alikes.{set_then, set_back}
use Rattle.compare.specs.Sets.{Listed}
use Rattle.compare.specs.Tables.{Stands, FirstSent}
use Rattle.compare.specs.Compared.{Smallest}

-- the words that are left of a Vec whose front was filled
pub front_words : (a : Policy) (words more rest : List ℕ) (n m : ℕ) → length words ≡ m → Stands a (take n words) → rest ≡ take n (take m (words ++ more)) → Stands a rest
front_words a words more rest n m l s e =
    subst (Stands a) (sym (e ∙ ap (take n) (take_at words more m l))) s

-- words that are a table count
pub counted : (a : Policy) (ws vs : List ℕ) → Stands a ws → vs ≡ kept ws → Right a (rules_of vs)
counted a ws vs s e = subst (λ l. Right a (rules_of l)) (sym (e ∙ cond-true (sound ws) ws [] s.sound)) s.right

-- what two tables do is what two policies do
pub smallest : (a b : Policy) (s t : Table) (r : Packet) (ps qs : List Packet) → Right a s → Right b t → FirstSent s t r → Listed ps (sent s r) → Listed qs (sent t r) → Smallest a b r ps qs
smallest a b s t r ps qs x y h l m =
    record {
      packet = h.packet;
      differ = λ same. h.differ (set_then (x r h.packet) (set_then same (set_back (y r h.packet))));
      before = λ p is less. set_then (set_back (x p is)) (set_then (h.before p is less) (y p is));
      first = record { same = set_then l.same (x r h.packet); rising = l.rising };
      second = record { same = set_then m.same (y r h.packet); rising = m.rising };
    }
