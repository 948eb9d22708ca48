use Rattle.std.proofs.lemmas.Result.{IfOk-weaker}
use Rattle.gateway.proofs.day.run_day.Goals as goal

pub returns-clause-rows : goal.returns-clause-rows
returns-clause-rows g c = IfOk-weaker c.end_day.result _ _ (λ day last. last c.args.messages.now c.publish_beside-writer.ensures.writer.1) c.end_day.ensures.rows
