use Rattle.wire_out.proofs.FramesDiffer.{frames_fit}
use Rattle.wire_out.proofs.law.frames_fit.Goals as goal

pub returns : goal.returns
returns c = frames_fit
