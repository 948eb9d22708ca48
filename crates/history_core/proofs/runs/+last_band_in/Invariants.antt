use Rattle.std.proofs.Common.{length}
use Rattle.history_core.proofs.runs.+last_band_in.Given as goal

abbrev pub decreases-last_band_in : goal.decreases-last_band_in
decreases-last_band_in l = length l.h.now
