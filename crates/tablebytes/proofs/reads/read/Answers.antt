-- A table that fits is stored.
use Rattle.std.proofs.Common.{◌≤◌, length, arith}
use Rattle.octets.specs.Readers.{rest}
use Rattle.table.specs.Words.{encode}
use Rattle.tablebytes.proofs.Storing.{measured, stored, stands}
use Rattle.tablebytes.proofs.reads.read.Goals as goal

pub returns-clause-cases : goal.returns-clause-cases
returns-clause-cases c =
    let s = measured c.args.bytes.now (rest c.new-c.result) (rest c.measure.new.c) c.in_ok-n.n c.new-c.ensures c.in_ok-end.ensures c.in_ok-n.ensures.value in
    let room : length (encode s.what) ≤ length c.args.words.now = omega (arith, s.long, c.if-words-n.false) in
    stored c.args.bytes.now _ _ s.what s.read c.fill.result c.fill.ensures room

pub returns-clause-table : goal.returns-clause-table
returns-clause-table c =
    let s = measured c.args.bytes.now (rest c.new-c.result) (rest c.measure.new.c) c.in_ok-n.n c.new-c.ensures c.in_ok-end.ensures c.in_ok-n.ensures.value in
    let room : length (encode s.what) ≤ length c.args.words.now = omega (arith, s.long, c.if-words-n.false) in
    stands c.args.bytes.now _ _ s.what s.read c.fill.result c.fill.ensures room
