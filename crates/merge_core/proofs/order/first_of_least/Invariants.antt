use Rattle.merge_core.proofs.Scanning.{Scanned}
use Rattle.merge_core.proofs.order.first_of_least.Given as goal

abbrev pub invariant-loop-nth : goal.invariant-loop-nth
invariant-loop-nth l = Scanned l.first l.nth l.least l.lists
