use Rattle.std.proofs.Common.{◌≡◌, ◌-◌, ℕ, List}
use Rattle.std.specs.Prelude.{Option}
use Rattle.host_core.specs.Outside.{NoFault}
use Rattle.recovery_core.specs.Recoveries.{OnlyRecovers}
use Rattle.standby_core.specs.Reading.{IsInStep}
use Rattle.standby_core.specs.Shipping.{HasShipped, Ships}
use Rattle.standby_core.proofs.shipping.ship_batches.Given as goal

abbrev pub invariant-batches : goal.invariant-batches
invariant-batches g l = record {
  in_step : IsInStep l.reading.scan l.reading.admission (g.H.Host.outside l.host).disk;
  advances : (begin : Option (List ℕ)) (disk : List ℕ) → HasShipped l.from begin disk l.initial.reading l.initial.outbox (g.H.Host.outside l.initial.host)
      → HasShipped l.from begin disk l.reading l.outbox (g.H.Host.outside l.host) × Ships l.from l.initial.reading.scan.base begin disk (g.H.Host.outside l.initial.host) (g.H.Host.outside l.host);
  base : l.reading.scan.base ≡ l.initial.reading.scan.base;
  keeps : OnlyRecovers (g.H.Host.outside l.initial.host) (g.H.Host.outside l.host);
  none : NoFault (g.H.Host.outside l.initial.host) (g.H.Host.outside l.host);
}

abbrev pub decreases-batches : goal.decreases-batches
decreases-batches g l = l.reading.scan.size - l.reading.scan.gate
