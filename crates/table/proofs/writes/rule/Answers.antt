-- The wants, and the outs behind them.
use Rattle.std.proofs.Common.{◌++◌, length, ap, ◌∙◌, arith}
use Rattle.std.proofs.lemmas.List.{append_assoc, length-append}
use Rattle.table.specs.Bytes.{wants_bytes, outs_bytes}
use Rattle.table.specs.Views.{wants_in, outs_in}
use Rattle.table.specs.Words.{pairs_of}
use Rattle.table.proofs.Alike.{wants_bytes_of}
use Rattle.table.proofs.writes.rule.Goals as goal

pub pairs-requires : goal.pairs-requires
pairs-requires c =
    let r = c.args.rule in
    record { room = omega (arith, ap length (wants_bytes_of (pairs_of r.wants.words.now)), length-append (wants_bytes (wants_in r.wants)) (outs_bytes (outs_in r.outs)), c.requires.room) }

pub outs-requires : goal.outs-requires
outs-requires c =
    let r = c.args.rule in
    record {
      room =
          omega (
            arith,
            c.args.out.now.ok.0,
            c.pairs.new.out.ok.0,
            ap length (c.pairs.ensures.items ∙ ap (λ b. c.args.out.now.items ++ b) (wants_bytes_of (pairs_of r.wants.words.now))),
            length-append c.args.out.now.items (wants_bytes (wants_in r.wants)),
            length-append (wants_bytes (wants_in r.wants)) (outs_bytes (outs_in r.outs)),
            c.requires.room,
            c.pairs.ensures.capacity,
          );
    }

pub returns-clause-items : goal.returns-clause-items
returns-clause-items c =
    let r = c.args.rule in
    let wants = wants_bytes (wants_in r.wants) in
    let outs = outs_bytes (outs_in r.outs) in
    let same = ap (λ b. c.args.out.now.items ++ b) (wants_bytes_of (pairs_of r.wants.words.now)) in
    c.outs.ensures.items ∙ ap (λ l. l ++ outs) (c.pairs.ensures.items ∙ same) ∙ append_assoc c.args.out.now.items wants outs
