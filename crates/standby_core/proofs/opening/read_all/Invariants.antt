use Rattle.std.proofs.Common.{◌-◌, ℕ, List}
use Rattle.host_core.specs.Outside.{NoFault}
use Rattle.host_core.specs.Frames.{OnlyReadsDisk}
use Rattle.standby_core.specs.Reading.{IsInStep}
use Rattle.standby_core.specs.Running.{IsRead}
use Rattle.standby_core.proofs.opening.read_all.Given as goal

abbrev pub invariant-batches : goal.invariant-batches
invariant-batches g l = record {
  in_step : IsInStep l.reading.scan l.reading.admission (g.H.Host.outside l.host).disk;
  reads : (disk : List ℕ) → IsRead disk l.initial.reading (g.H.Host.outside l.initial.host) → IsRead disk l.reading (g.H.Host.outside l.host);
  keeps : OnlyReadsDisk (g.H.Host.outside l.initial.host) (g.H.Host.outside l.host);
  none : NoFault (g.H.Host.outside l.initial.host) (g.H.Host.outside l.host);
}

abbrev pub decreases-batches : goal.decreases-batches
decreases-batches g l = l.reading.scan.size - l.reading.scan.gate
