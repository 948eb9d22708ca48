-- The counts of what failed.
use Rattle.std.specs.Prelude.{◌≤◌}
use Rattle.host_core.specs.declared.counts.FaultCounts.{FaultCounts}
use Rattle.host_core.specs.declared.counts.Side.{Side}
use Rattle.host_core.specs.declared.counts.Side.TheVariants.{Input, Sink, Disk}
use Rattle.host_core.specs.Outside.{raised}

abbrev pub no_faults : FaultCounts
no_faults = record { reading = 0; sending = 0; storing = 0 }

-- the counts with one more
abbrev pub faulted : Side → FaultCounts → FaultCounts
faulted Input counts = record counts { reading = raised counts.reading }
faulted Sink counts = record counts { sending = raised counts.sending }
faulted Disk counts = record counts { storing = raised counts.storing }

-- no count is less than before
pub record NoneFalls (old new : FaultCounts) : Type 0 where
  pub reading : old.reading ≤ new.reading
  pub sending : old.sending ≤ new.sending
  pub storing : old.storing ≤ new.storing
