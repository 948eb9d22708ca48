use Rattle.std.proofs.Common.{◌++◌, length, take, take-add, length-drop, ap, ◌∙◌, append_assoc, arith}
use Rattle.std.proofs.lemmas.List.{take_rest}
use Rattle.engine_core.proofs.session.Session.take_frames.Goals as goal

pub loop-at-preserved : goal.loop-at-preserved
loop-at-preserved c =
    let piece = c.args.piece.now in
    let at = c.loop-at.at in
    let left = ap length (take_rest piece at) ∙ length-drop at piece in
    record {
      within = omega (arith, c.advance-at.ensures.used.0, left, c.loop-at.invariant.within);
      between = λ lt. c.advance-at.ensures.between (omega (arith, lt, left));
      few = omega (arith, c.loop-at.invariant.few, c.advance-at.ensures.more, c.advance-at.ensures.used.1, left, c.loop-at-test.true);
      most = c.advance-at.ensures.most ∙ c.loop-at.invariant.most;
      judges = λ start answered read sent judges.
          rw (take_rest piece at, append_assoc, ← take-add at c.advance-at.result piece) at
          (c.advance-at.ensures.judges start answered (read ++ take at piece) sent (c.loop-at.invariant.judges start answered read sent judges));
      sound = λ sound. rw c.advance-at.ensures.answered (c.advance-at.ensures.sound _ (c.loop-at.invariant.sound sound));
      capacity = c.advance-at.ensures.capacity ∙ c.loop-at.invariant.capacity;
      evaluated = c.advance-at.ensures.evaluated ∙ c.loop-at.invariant.evaluated;
      answered = c.advance-at.ensures.answered ∙ c.loop-at.invariant.answered;
    }
