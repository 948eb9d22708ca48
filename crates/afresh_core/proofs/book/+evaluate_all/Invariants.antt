use Rattle.std.proofs.Common.{length}
use Rattle.afresh_core.proofs.book.+evaluate_all.Given as goal

abbrev pub decreases-evaluate_all : goal.decreases-evaluate_all
decreases-evaluate_all l = length l.ids.now
