use Rattle.std.proofs.Common.{arith}
use Rattle.symbol_core.proofs.Waiting.{reopens-early, reopens-without}
use Rattle.symbol_core.proofs.state.Kept.reopens_from.Goals as goal

pub returns-in-Some : goal.returns-in-Some
returns-in-Some c = λ u before. reopens-early c.args.self.now c.in-Some.auction u c.in-Some.is (omega arith)

pub returns-in-None : goal.returns-in-None
returns-in-None c = λ u before. reopens-without c.args.self.now u c.in-None.is
