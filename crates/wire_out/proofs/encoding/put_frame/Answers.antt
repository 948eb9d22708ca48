use Rattle.wire_out.proofs.RoundTrip.{body_again}
use Rattle.wire_out.proofs.encoding.put_frame.Goals as goal

pub returns-clause-read : goal.returns-clause-read
returns-clause-read c = λ in_range. body_again c.args.f.now c.put_any.ensures.types in_range
