use Rattle.std.proofs.Common.{arith}
use Rattle.text_core.proofs.Frames.{frame_found}
use Rattle.text_core.proofs.frame_reading.read_frame_in.Goals as goal

pub returns-in_default-clause-only : goal.returns-in_default-clause-only
returns-in_default-clause-only c = λ x p. grind (arith, frame_found c.args.line.now x p)

pub returns-then-prints-clause-only : goal.returns-then-prints-clause-only
returns-then-prints-clause-only c = λ x p. grind (arith, frame_found c.args.line.now x p)

pub returns-else-prints-clause-only : goal.returns-else-prints-clause-only
returns-else-prints-clause-only c = λ x p. grind (arith, frame_found c.args.line.now x p)
