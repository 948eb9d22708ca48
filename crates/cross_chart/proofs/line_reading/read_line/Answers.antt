use Rattle.std.proofs.Common.{Ok, ap}
use Rattle.cross_chart.proofs.Lines.{nothing_read, same_read, not_refused}
use Rattle.cross_chart.proofs.line_reading.read_line.Goals as goal

pub returns-in_default-clause-only : goal.returns-in_default-clause-only
returns-in_default-clause-only c = λ x p. nothing_read c.args.line.now x c.taken_for.result c.in_default.is c.taken_for.ensures p

pub returns-then-says-clause-only : goal.returns-then-says-clause-only
returns-then-says-clause-only c = λ x p. ap Ok (same_read c.args.line.now x _ c.taken_for.result c.in-Some.is c.taken_for.ensures p)

pub returns-else-says-clause-only : goal.returns-else-says-clause-only
returns-else-says-clause-only c = λ x p.
    not_refused c.args.line.now x _ c.says.result (same_read c.args.line.now x _ c.taken_for.result c.in-Some.is c.taken_for.ensures p) c.if-says.false c.says.ensures p
