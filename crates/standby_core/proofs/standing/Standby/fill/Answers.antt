use Rattle.std.proofs.Common.{◌++◌, length, take, ap, ◌∙◌, append_assoc, arith}
use Rattle.std.proofs.Math.Seq.{take-add}
use Rattle.std.proofs.lemmas.List.{take_rest, length-drop}
use Rattle.standby_core.proofs.standing.Standby.fill.Goals as goal

pub loop-at-preserved : goal.loop-at-preserved
loop-at-preserved c =
    let piece = c.args.piece.now in
    let at = c.loop-at.at in
    let n = c.advance-at.result in
    let left = ap length (take_rest piece at) ∙ length-drop at piece in
    record {
      within = omega (arith, c.advance-at.ensures.used.0, left, c.loop-at.invariant.within);
      few = omega (arith, c.loop-at.invariant.few, c.advance-at.ensures.more, c.advance-at.ensures.used.1, left, c.loop-at-test.true);
      most = c.advance-at.ensures.most ∙ c.loop-at.invariant.most;
      gathers = λ given answered read gathers.
          rw (take_rest piece at, append_assoc, ← take-add at n piece) at
          (c.advance-at.ensures.gathers given answered (read ++ take at piece) (c.loop-at.invariant.gathers given answered read gathers));
      sound = λ known sound. c.advance-at.ensures.sound known (c.loop-at.invariant.sound known sound);
      journal = c.advance-at.ensures.journal ∙ c.loop-at.invariant.journal;
      answered = c.advance-at.ensures.answered ∙ c.loop-at.invariant.answered;
    }
