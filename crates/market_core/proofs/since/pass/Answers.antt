use Rattle.std.proofs.Common.{arith}
use Rattle.market_core.proofs.Sections.{idles-later}
use Rattle.market_core.proofs.since.pass.Goals as goal

pub returns-then-nanos-clause-idles : goal.returns-then-nanos-clause-idles
returns-then-nanos-clause-idles c = λ alarm held idles. idles-later c.args.since.now c.in-Some.since c.args.t alarm held c.in-Some.is (omega arith) idles
