use Rattle.wire_in.proofs.Streams.{frames_differ, records_differ}
use Rattle.wire_in.proofs.law.frames_differ.Goals as goal

pub returns : goal.returns
returns c = record { frames = frames_differ; records = records_differ }
