use Rattle.std.proofs.Common.{◌≡◌, ◌+◌, length, refl, ◌∙◌, arith, rules}
use Rattle.stream_core.proofs.Sending.{sends_longer, sends_whole}
use Rattle.engine_core.proofs.reply.answer_record.Goals as goal

pub returns-in_err-evaluate-clause-appends : goal.returns-in_err-evaluate-clause-appends
returns-in_err-evaluate-clause-appends g c capacity held evaluated later begin text s ahead passed expects =
    record { pending = search rules; moments = sends_longer text _ _ refl (c.evaluate.ensures.moments begin text expects) }

pub returns-clause-appends : goal.returns-clause-appends
returns-clause-appends g c capacity held evaluated later begin text s ahead passed expects =
    let gave = c.deref.ensures.value ∙ c.in_ok-evaluate.ensures.messages capacity capacity held evaluated later s.stands ahead passed in
    let number : c.evaluate.new.engine.evaluated ≡ length evaluated + 1 = omega (arith, c.in_ok-evaluate.ensures.evaluated, s.evaluated_is) in
    let last = rw (s.published, gave, number) at (c.append_accepted.ensures.appends begin text (c.in_ok-evaluate.ensures.pending begin text expects)) in
    record { pending = last.pending; moments = sends_whole (sends_longer text _ _ refl (c.evaluate.ensures.moments begin text expects)) last.moments }
