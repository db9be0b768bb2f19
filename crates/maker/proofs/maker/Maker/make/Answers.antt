use Rattle.std.proofs.Common.{◌≡◌, MatchResult, Ok, Err, sym, arith, rules}
use Rattle.maker.specs.declared.maker.NoTable.TheVariants.{Refused}
use Rattle.maker.specs.Makers.{policy_of}
use Rattle.maker.proofs.Handing.{has_room, no_room, no_table, made_by, handed_by}
use Rattle.maker.proofs.maker.Maker.make.Goals as goal

pub returns-in_default-clause-made : goal.returns-in_default-clause-made
returns-in_default-clause-made c =
    let lt = c.in_default.ensures.cases in
    let five = no_table c.args.self.now lt in
    (omega (arith, no_room c.args.self.now lt), sym five, omega (arith, five), c.fill.ensures.after (λ y e. e))

pub returns-then-out-leaves-clause-made : goal.returns-then-out-leaves-clause-made
returns-then-out-leaves-clause-made c =
    let f = c.in-Some.ensures.cases in
    (omega (arith, has_room c.args.self.now f.1, f.0, c.if-out-leaves.true), c.fill-then-out-leaves.ensures.after (λ y e. e))

pub returns-clause-made : goal.returns-clause-made
returns-clause-made c =
    let f = c.in-Some.ensures.cases in
    let told : MatchResult c.put.result (λ n. c.map_err.result ≡ Ok n) (λ e. c.map_err.result ≡ Err (Refused e)) = search rules in
    made_by (policy_of c.args.self.now) _ c.put.new.out c.put.result c.map_err.result (omega (arith, has_room c.args.self.now f.1, f.0, c.if-out-leaves.false)) c.put.ensures.put told

pub returns-clause-handed : goal.returns-clause-handed
returns-clause-handed c =
    let told : MatchResult c.put.result (λ n. c.map_err.result ≡ Ok n) (λ e. c.map_err.result ≡ Err (Refused e)) = search rules in
    handed_by (policy_of c.args.self.now) _ c.put.new.out c.put.result c.map_err.result c.put.ensures.put told
