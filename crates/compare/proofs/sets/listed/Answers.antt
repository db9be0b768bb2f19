-- Sorted, and each once.
use Rattle.std.proofs.Common.{rules, subst}
use Rattle.std.specs.Cmp.Lexicographic.{slice_cmp}
use Rattle.std.specs.List.Sorted.{IsPermutation}
use Rattle.std.specs.Ordering.{is_lt, nat_cmp}
use Rattle.std.proofs.lemmas.Fn.{always_returns_same}
use Rattle.std.proofs.lemmas.List.Filters.{dedup_is}
use Rattle.std.proofs.lemmas.List.MinMax.{ranks_by}
use Rattle.packet.specs.contracts.packets.PacketOrd.TheImpl.Laws as laws
use Rattle.compare.proofs.Listing.{listed_sorted}
use Rattle.compare.proofs.sets.listed.Goals as goal

pub returns : goal.returns
returns c =
    let copied = c.in_ok-set.ensures.items_if_clones_equal (λ x y e. e) in
    let sort = c.sort_unstable_by.ensures in
    let sorted = sort.sorted (λ p q. is_lt (slice_cmp nat_cmp p.fields q.fields)) (ranks_by laws.total-law (λ p. p)) (always_returns_same _ _ _ (λ a r g called. search rules)) in
    record {
      made =
          listed_sorted c.args.packets.now c.sort_unstable_by.new.self.items c.requires.eight
          (subst (λ l. IsPermutation l c.sort_unstable_by.new.self.items) copied sort.permutation) sorted
          c.dedup.new.self.items (dedup_is _ _ _ c.dedup.ensures.filtered);
    }
