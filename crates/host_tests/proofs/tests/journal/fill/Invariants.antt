use Rattle.std.proofs.Common.{◌+◌, ◌-◌}
use Rattle.std.specs.Prelude.{IsTrue}
use Rattle.memory_host.specs.Memory.{known}
use Rattle.journal_core.specs.Journal.{HasBytes}
use Rattle.host_tests.proofs.tests.journal.fill.Given as goal

abbrev pub invariant-loop-journal : goal.invariant-loop-journal
invariant-loop-journal l = record { whole : IsTrue l.journal.whole; gate : HasBytes (l.journal.gate + 1) (known l.host).disk }

abbrev pub decreases-loop-journal : goal.decreases-loop-journal
decreases-loop-journal l = l.count - l.journal.count
