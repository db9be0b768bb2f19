-- An awaited answer is heard; if it is the last one the desk goes on, and else it waits.
use Rattle.std.proofs.Common.{sym, ap, ◌∙◌, subst, arith}
use Rattle.std.proofs.lemmas.Bool.{false≢true}
use Rattle.run.specs.Desk.{AllSeen, onwards}
use Rattle.desk.proofs.Desk.accept.Goals as goal

pub returns-then-all_seen : goal.returns-then-all_seen
returns-then-all_seen c =
    record {
      after = record {
        switch = omega (arith, c.if-from-ge-SWITCHES.false, c.from.ensures);
        awaited = c.awaits.ensures.test.0 c.if-not-awaits.false;
        last = λ _. c.go_on.ensures.after ∙ ap (onwards c.args.rounds) c.hear-heard.ensures.after;
        waits = λ no. absurd (no (subst (AllSeen c.args.switches) c.hear-heard.ensures.after (c.all_seen.ensures.test.0 c.if-all_seen.true)));
      };
    }

pub returns-else-all_seen : goal.returns-else-all_seen
returns-else-all_seen c =
    record {
      after = record {
        switch = omega (arith, c.if-from-ge-SWITCHES.false, c.from.ensures);
        awaited = c.awaits.ensures.test.0 c.if-not-awaits.false;
        last = λ all. absurd (false≢true (sym c.if-all_seen.false ∙ c.all_seen.ensures.test.1 (subst (AllSeen c.args.switches) (sym c.hear-heard.ensures.after) all)));
        waits = λ _. c.hear-heard.ensures.after;
      };
    }
