use Rattle.std.proofs.Common.{arith}
use Rattle.standby_core.proofs.Spelling.{have_again}
use Rattle.standby_core.proofs.encoding.put_have.Goals as goal

pub returns-clause-read : goal.returns-clause-read
returns-clause-read c = have_again c.args.count (omega (arith, c.ranges.count))
