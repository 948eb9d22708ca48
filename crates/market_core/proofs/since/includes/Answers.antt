use Rattle.std.proofs.Common.{arith}
use Rattle.market_core.proofs.Sections.{idles-included}
use Rattle.market_core.proofs.since.includes.Goals as goal

pub returns-then-nanos : goal.returns-then-nanos
returns-then-nanos c = λ same alarm held idles.
    idles-included (record { from = c.args.from; market = c.args.market.now }) c.args.since.now alarm held (omega arith) (c.is_same.ensures.same same) idles
