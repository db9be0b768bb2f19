use Rattle.std.proofs.Common.{◌-◌, length, replicate, sym, ap, arith, length-append, length-take-le}
use Rattle.prescribed.specs.Table.{table_of}
use Rattle.table.specs.Words.{encode}
use Rattle.maker.specs.Makers.{policy_of}
use Rattle.tables.proofs.answer.printed.Goals as goal

pub slice_bounds-new-end-2 : goal.slice_bounds-new-end-2
slice_bounds-new-end-2 c =
    let p = c.in_ok-size.ensures.made in
    sym (length-take-le c.in_ok-size.size c.make.new.out (omega (arith, p.2, ap length p.3, length-append (encode (table_of (policy_of c.args.maker.now))) (replicate (length c.args.words.now - c.in_ok-size.size) 0))))
