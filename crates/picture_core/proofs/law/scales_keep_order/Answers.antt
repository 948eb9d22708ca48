use Rattle.picture_core.proofs.Order.{moments_in_order, prices_in_order}
use Rattle.picture_core.proofs.law.scales_keep_order.Goals as goal

pub returns : goal.returns
returns c = record { moments = moments_in_order; prices = prices_in_order }
