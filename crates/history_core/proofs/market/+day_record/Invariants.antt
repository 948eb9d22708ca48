use Rattle.std.proofs.Common.{length}
use Rattle.history_core.proofs.market.+day_record.Given as goal

abbrev pub decreases-day_record : goal.decreases-day_record
decreases-day_record l = length l.h.now
