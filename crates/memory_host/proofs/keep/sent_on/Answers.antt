use Rattle.std.proofs.lemmas.Result.{on_ok_weaker}
use Rattle.memory_host.proofs.keep.sent_on.Goals as goal

pub returns-clause-effect : goal.returns-clause-effect
returns-clause-effect c = on_ok_weaker c.keep.result (λ effects. (c.in_ok-from_slice.field-0, c.in_ok-from_slice.ensures.items, effects)) c.keep.ensures.effects
