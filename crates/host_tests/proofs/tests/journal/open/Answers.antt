use Rattle.journal_core.proofs.Offsets.{scan_reaches, gate_reaches}
use Rattle.host_tests.proofs.tests.journal.open.Goals as goal

pub next-requires : goal.next-requires
next-requires g c = scan_reaches c.loop-batch.invariant

pub returns-clause-gate : goal.returns-clause-gate
returns-clause-gate g c = gate_reaches (c.finish.ensures.of_disk _ (c.next.ensures.of_disk c.loop-batch.invariant))
