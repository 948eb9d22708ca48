-- A disk that is left alone.
use Rattle.std.proofs.Common.{◌∙◌}
use Rattle.host_core.specs.Outside.{Outside}
use Rattle.replay_core.specs.Replayed.{LeavesDisk}

-- by one run and then by another
pub left_on : (old mid new : Outside) → LeavesDisk old mid → LeavesDisk mid new → LeavesDisk old new
left_on old mid new first second = record { disk = second.disk ∙ first.disk; disk_faults = second.disk_faults ∙ first.disk_faults }
