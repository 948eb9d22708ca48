use Rattle.std.proofs.Common.{◌++◌, List, ℕ, length, take, ap, ◌∙◌, arith, append_assoc, length-append, sym}
use Rattle.journal_core.specs.Layout.{frame_of, frames_of}
use Rattle.journal_core.proofs.FrameLemmas.{frames_more, sound_more}
use Rattle.journal_core.proofs.frames.put_frames.Goals as goal

pub loop-x-preserved : goal.loop-x-preserved
loop-x-preserved c =
    let i = c.loop-x.x-index in
    let x = c.x-item.result in
    let batch = c.args.batch.now in
    let before = c.loop-x.invariant in
    let start = take 4 c.args.into.now in
    let more = frames_more batch i x c.loop-x-test.true c.x-item.is in
    record {
      end = omega (arith, ap length more, length-append (frames_of (take i batch)) (frame_of x));
      most = omega arith;
      len = c.put_frame-end.array_long;
      bytes = c.put_frame-end.ensures.bytes
          ∙ ap (λ (t : List ℕ). t ++ frame_of x) before.bytes
          ∙ append_assoc start (frames_of (take i batch)) (frame_of x)
          ∙ ap (λ (t : List ℕ). start ++ t) (sym more);
      sound = sound_more batch i x c.loop-x-test.true c.x-item.is before.sound c.put_frame-end.ensures.sound;
    }
