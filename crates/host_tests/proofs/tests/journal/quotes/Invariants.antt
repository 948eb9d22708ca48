use Rattle.std.proofs.Common.{◌-◌, ◌≤◌, length}
use Rattle.host_tests.proofs.tests.journal.quotes.Given as goal

abbrev pub invariant-loop-moment : goal.invariant-loop-moment
invariant-loop-moment l = length l.batch ≤ l.count

abbrev pub decreases-loop-moment : goal.decreases-loop-moment
decreases-loop-moment l = l.count - length l.batch
