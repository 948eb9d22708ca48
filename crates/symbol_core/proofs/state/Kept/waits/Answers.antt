use Rattle.std.proofs.Common.{arith}
use Rattle.symbol_core.proofs.state.Kept.waits.Goals as goal

pub returns : goal.returns
returns c =
    record {
      closes = λ u before. c.close_of-close.ensures u (omega arith);
      starts = λ u before. c.starts_from-starts.ensures c.args.step.now.day u (omega arith);
      pauses = λ u before. c.pauses_from-pauses.ensures u (omega arith);
      reopens = λ u before. c.reopens_from-reopens.ensures u (omega arith);
      bands = λ step day le before. c.changes_bands_from-bands.ensures step day le (omega arith);
    }
