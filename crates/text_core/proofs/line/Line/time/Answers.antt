use Rattle.text_core.proofs.Plain.{time_digits}
use Rattle.text_core.proofs.line.Line.time.Goals as goal

pub returns-clause-text : goal.returns-clause-text
returns-clause-text c = cc (time_digits c.args.moment)
