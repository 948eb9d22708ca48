use Rattle.text_core.proofs.Plain.{date_digits}
use Rattle.text_core.proofs.line.Line.date.Goals as goal

pub returns-clause-text : goal.returns-clause-text
returns-clause-text c = cc (date_digits c.args.date)
