use Rattle.std.proofs.Common.{◌≡◌, ◌+◌, ◌-◌, ◌≤◌, ℕ, List, [], length}
use Rattle.std.specs.Prelude.{Option, None}
use Rattle.host_core.specs.Outside.{NoFault}
use Rattle.host_core.specs.Frames.{OnlyReadsDisk}
use Rattle.evaluator_core.specs.Evaluating.{workers_of}
use Rattle.recovery_core.specs.Recoveries.{SendsAgain, IsReading, Gathers, OnlyRecovers}
use Rattle.recovery_core.proofs.recovery.Recovery.read.Given as goal

abbrev pub invariant-batches : goal.invariant-batches
invariant-batches g l = record {
  reading : IsReading l.self.scan l.self.engine (length l.self.waiting.records) (g.H.Host.outside l.host).disk;
  room : length l.self.waiting.records + 64 ≤ l.self.waiting.most;
  advances : (begin : Option (List ℕ)) (disk : List ℕ) → Gathers l.from begin disk l.initial.self (g.H.Host.outside l.initial.host)
      → Gathers l.from begin disk l.self (g.H.Host.outside l.host) × SendsAgain l.from l.self.scan.base begin disk (g.H.Host.outside l.initial.host) (g.H.Host.outside l.host);
  base : l.self.scan.base ≡ l.initial.self.scan.base;
  workers : workers_of l.self.engine.evaluator ≡ workers_of l.initial.self.engine.evaluator;
  unasked : l.from ≡ None → l.initial.self.outbox ≡ [] → OnlyReadsDisk (g.H.Host.outside l.initial.host) (g.H.Host.outside l.host) × (l.self.outbox ≡ []);
  keeps : OnlyRecovers (g.H.Host.outside l.initial.host) (g.H.Host.outside l.host);
  none : NoFault (g.H.Host.outside l.initial.host) (g.H.Host.outside l.host);
}

abbrev pub decreases-batches : goal.decreases-batches
decreases-batches g l = l.self.scan.size - l.self.scan.gate
