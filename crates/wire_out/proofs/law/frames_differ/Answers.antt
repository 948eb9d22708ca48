use Rattle.wire_out.proofs.FramesDiffer.{frames_differ}
use Rattle.wire_out.proofs.law.frames_differ.Goals as goal

pub returns : goal.returns
returns c = frames_differ
