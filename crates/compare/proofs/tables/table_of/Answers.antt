-- The words of a text's table.
use Rattle.std.proofs.Common.{vec_items, ◌∙◌, subst}
use Rattle.maker.specs.Makers.{policy_of}
use Rattle.compare.specs.Tables.{Stands}
use Rattle.compare.proofs.Finding.{front_words}
use Rattle.compare.proofs.tables.table_of.Goals as goal

pub returns : goal.returns
returns c =
    let a = policy_of c.in_ok-maker.maker in
    let done = c.in_ok-size.ensures in
    record {
      cases =
          subst (λ a. Stands a (vec_items c.truncate.new.self)) c.in_ok-maker.ensures.made
          (front_words a c.make.new.out _ _ c.in_ok-size.size _ (c.make.auto.out ∙ c.as_mut_slice.ensures.len)
          (record { fits = done.made.1; sound = done.handed.0; right = done.handed.2 })
          c.truncate.ensures.items);
    }
