use Rattle.std.proofs.Common.{◌≡◌, ◌-◌, sym, ap, ◌∙◌, arith}
use Rattle.std.proofs.lemmas.Result.{err_from_is_err_and}
use Rattle.octets.specs.Faults.{number}
use Rattle.octets.specs.Parse.{Bad}
use Rattle.octets.specs.Readers.{told_as, rest}
use Rattle.wire.specs.declared.net.Net.{Net}
use Rattle.wire.specs.Layouts.{times}
use Rattle.wire.specs.Nets.{wires_in, Alike}
use Rattle.wire.proofs.Linked.{times_more, times_stop}
use Rattle.wire.proofs.cables.reads.times.Goals as goal

alike_then : {a b c : Net} → Alike a b → Alike b c → Alike a c
alike_then p q = record { switches = p.switches ∙ q.switches; ports = p.ports ∙ q.ports }

pub loop-preserved : goal.loop-preserved
loop-preserved g c = λ step reads.
    let so_far = c.loop.invariant step reads in
    let now = reads _ _ _ _ _ so_far.1.switches so_far.1.ports c.read.ensures in (
      ◌∙◌ {c = times c.args.count step (wires_in c.args.net.now) (rest c.args.c.now)} (times_more step c.args.count c.loop.counter _ (wires_in c.read.new.arg3) _ _ c.loop-test.true
          (ap (λ o. told_as (λ _. wires_in c.read.new.arg3) o (rest c.read.new.arg2)) (sym c.in_ok-read.was) ∙ now.0)) so_far.0,
      alike_then now.1 so_far.1,
    )

pub returns-in_err-read : goal.returns-in_err-read
returns-in_err-read g c =
    let p = err_from_is_err_and c.from_residual.result c.from_residual.ensures.1 in
    rw p.1 record {
      value = λ step reads.
          let so_far = c.loop.invariant step reads in
          let now = reads _ _ _ _ _ so_far.1.switches so_far.1.ports c.read.ensures in (
            times_stop step c.args.count c.loop.counter _ _ _ c.loop-test.true
                (ap (λ e. Bad (number e)) p.2 ∙ ap (λ o. told_as (λ _. wires_in c.read.new.arg3) o (rest c.read.new.arg2)) (sym c.in_err-read.was) ∙ now.0) ∙ so_far.0,
            alike_then now.1 so_far.1,
          );
    }

pub returns : goal.returns
returns g c =
    record {
      value = λ step reads.
          let so_far = c.loop.invariant step reads in
          let none : 0 ≡ c.args.count - c.loop.counter = omega (arith, c.loop-test.false) in
          (◌∙◌ {c = times c.args.count step (wires_in c.args.net.now) (rest c.args.c.now)} (ap (λ k. times k step (wires_in c.loop.net) (rest c.loop.c)) none) so_far.0, so_far.1);
    }
