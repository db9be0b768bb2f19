use Rattle.meaning.proofs.Answering.{put_gives}
use Rattle.meaning.proofs.evaluator.gives.give_put.Goals as goal

pub returns : goal.returns
returns c = record { answer = put_gives c.args.f c.args.x _ _ c.one.result c.put.ensures.value c.one.ensures.value }
