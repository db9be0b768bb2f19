-- A plan's texts fit, so that what is written reads as them.
use Rattle.std.proofs.Common.{vec_items}
use Rattle.plan.proofs.Trips.{reads_back, all_fit}
use Rattle.plan.proofs.change.writes.write.Goals as goal

pub returns-in_err-push-clause-back : goal.returns-in_err-push-clause-back
returns-in_err-push-clause-back c = reads_back _ (all_fit (vec_items c.args.plan.now.parts))

pub returns-then-is_err-clause-back : goal.returns-then-is_err-clause-back
returns-then-is_err-clause-back c = reads_back _ (all_fit (vec_items c.args.plan.now.parts))

pub returns-else-is_err-clause-back : goal.returns-else-is_err-clause-back
returns-else-is_err-clause-back c = reads_back _ (all_fit (vec_items c.args.plan.now.parts))
