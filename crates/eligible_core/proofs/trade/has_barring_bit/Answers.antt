use Rattle.eligible_core.proofs.Bits.{mask_bars}
use Rattle.eligible_core.proofs.trade.has_barring_bit.Goals as goal

pub returns : goal.returns
returns c = mask_bars c.args.flags
