use Rattle.std.proofs.Common.{◌-◌}
use Rattle.journal_core.specs.Scan.{IsScanOf}
use Rattle.host_tests.proofs.tests.journal.open.Given as goal

abbrev pub invariant-loop-batch : goal.invariant-loop-batch
invariant-loop-batch g l = IsScanOf l.scan (g.H.Host.outside l.host).disk

abbrev pub decreases-loop-batch : goal.decreases-loop-batch
decreases-loop-batch g l = l.scan.size - l.scan.gate
